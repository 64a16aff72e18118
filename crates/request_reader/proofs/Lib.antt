pub mod Expect
pub mod Bodies
pub mod ReadingLaws
pub mod LookLaws
pub mod Becoming
pub mod HeardLaws
pub mod RequestLaws
