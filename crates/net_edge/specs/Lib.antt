pub mod Lines
pub mod Makers
