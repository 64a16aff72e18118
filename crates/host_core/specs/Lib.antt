pub mod Names
pub mod Owners
pub mod Stands
