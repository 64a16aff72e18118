pub mod DerivedLaws
pub mod PlainLaws
