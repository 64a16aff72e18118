pub mod Served
pub mod Loops
pub mod Given
