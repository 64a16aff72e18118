pub mod Promised
pub mod TraceLaws
