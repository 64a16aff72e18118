pub mod Takes
pub mod Run
pub mod Played
