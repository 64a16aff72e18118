pub mod WordLaws
pub mod DecidedLaws
pub mod ChildRules
pub mod Computed
pub mod WrongChildren
