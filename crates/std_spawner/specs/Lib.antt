pub mod Commands
pub mod Programs
pub mod News
pub mod NewsEnds
pub mod Threads
pub mod Inputs
pub mod Paces
pub mod Kids
