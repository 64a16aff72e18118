pub mod Events
pub mod Orders
pub mod Shuts
pub mod Steps
pub mod Opens
pub mod Http
pub mod Talk
pub mod Both
