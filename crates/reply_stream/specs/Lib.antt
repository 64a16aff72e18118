pub mod Hearing
pub mod HearingRules
pub mod Writing
pub mod Stages
pub mod Openings
pub mod Memory
pub mod StageRules
