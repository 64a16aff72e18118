pub mod Setting
pub mod Legs
pub mod Children
pub mod Heard
pub mod Laws
pub mod Step
pub mod Moves
