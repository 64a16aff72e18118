pub mod StepLaws
pub mod PropLaws
