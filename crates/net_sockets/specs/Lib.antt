pub mod Listens
pub mod Nets
