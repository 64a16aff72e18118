pub mod Stdio
pub mod Once
