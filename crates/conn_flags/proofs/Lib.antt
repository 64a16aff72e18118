pub mod KnowsLaws
pub mod FitLaws
