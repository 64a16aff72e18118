pub mod Leaving
pub mod Orders
pub mod Loops
