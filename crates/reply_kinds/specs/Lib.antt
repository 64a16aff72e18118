pub mod Kind
pub mod Derived
pub mod DerivedRules
