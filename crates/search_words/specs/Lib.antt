pub mod SearchRules
pub mod SearchWords
