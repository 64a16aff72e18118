pub mod GoodLaws
mod PlaceLaws
mod LaneLaws
