pub mod FreedLaws
pub mod StandsLaws
pub mod GoodLaws
