pub mod Texts
pub mod Due
pub mod Turns
pub mod TurnLaws
pub mod RequestLaws
