pub mod SumLaws
pub mod ClientTallyLaws
pub mod ChildTallyLaws
pub mod FitLaws
