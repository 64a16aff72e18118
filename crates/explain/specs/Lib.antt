pub mod Explanation
pub mod Inputs
pub mod Explained
pub mod Steps
