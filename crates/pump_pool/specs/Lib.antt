pub mod Hands
pub mod Backs
pub mod Pumped
pub mod Pumps
pub mod Workers
