pub mod OverLaws
pub mod TurnLaws
mod AnyLaws
mod EndLaws
mod CoreLaws
pub mod OrderLaws
pub mod GivenLaws
