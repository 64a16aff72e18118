pub mod Plan
pub mod Listed
pub mod Counts
pub mod Fronts
