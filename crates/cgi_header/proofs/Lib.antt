pub mod LineLaws
pub mod StatusLaws
pub mod HeaderLaws
pub mod StayLaws
pub mod TakenLaws
pub mod GrammarLaws
pub mod ReadLaws
