pub mod Runs
pub mod WordLaws
pub mod Rests
pub mod Steps
pub mod BodyLaws
pub mod Refusals
pub mod DigitLaws
pub mod FramingLaws
