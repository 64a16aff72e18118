pub mod StatusLaws
pub mod JoinLaws
pub mod WordLaws
pub mod ExplainLaws
pub mod EntryLaws
pub mod GivenLaws
pub mod NumberLaws
