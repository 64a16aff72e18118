mod NextLaws
mod ClientTallyLaws
mod ChildTallyLaws
mod LeastLaws
mod TieLaws
