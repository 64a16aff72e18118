pub mod WordLaws
pub mod HeadLaws
pub mod SecondWord
pub mod ReadLaws
pub mod Computed
pub mod RefusalLaws
