pub mod Standings
pub mod Agreement
pub mod Leg
pub mod LegRules
pub mod Reply
pub mod StepRules
pub mod MemoryRules
