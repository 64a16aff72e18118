mod Front
pub mod Crosses
