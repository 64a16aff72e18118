pub mod StateLaws
pub mod GaveLaws
pub mod PartLaws
pub mod StepLaws
pub mod WelcomeLaws
pub mod OpenLaws
