pub mod TakeLaws
pub mod StepLaws
pub mod RunLaws
pub mod GoodLaws
pub mod WorldLaws
pub mod HasLaws
