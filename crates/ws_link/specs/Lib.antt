pub mod Answers
pub mod Pipe
pub mod State
