pub mod SearchLaws
pub mod WordsLaws
