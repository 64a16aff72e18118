pub mod TailLaws
pub mod FreshLaws
pub mod FlagLaws
pub mod FoundLaws
pub mod LossLaws
pub mod LaterLaws
pub mod StepLaws
