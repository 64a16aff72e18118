pub mod Manner
pub mod Due
pub mod Knows
