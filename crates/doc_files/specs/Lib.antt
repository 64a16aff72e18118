pub mod Held
pub mod Both
pub mod Files
pub mod Served
pub mod Owed
