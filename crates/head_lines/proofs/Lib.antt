pub mod FrontLaws
pub mod SearchLaws
