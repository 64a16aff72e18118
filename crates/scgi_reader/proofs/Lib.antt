mod PairLaws
mod NumberLaws
mod NameLaws
mod Computed
pub mod StayLaws
mod ReadingLaws
