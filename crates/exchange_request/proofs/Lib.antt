pub mod ReadyLaws
pub mod KnowsLaws
pub mod BareLaws
