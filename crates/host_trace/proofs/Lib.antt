pub mod StepLaws
pub mod AddsLaws
pub mod JoinsLaws
pub mod FirstLaws
pub mod ProjectionLaws
pub mod OwnLaws
pub mod Computed
