pub mod Crosses
pub mod Taken
