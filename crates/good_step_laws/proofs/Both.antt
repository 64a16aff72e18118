pub mod KindLaws
pub mod GreetWords
pub mod OpenWords
pub mod GiveLaws
pub mod Given
