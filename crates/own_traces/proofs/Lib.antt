pub mod ViewLaws
pub mod NameLaws
pub mod KeptLaws
pub mod SameLaws
pub mod BetweenLaws
pub mod BlockLaws
pub mod FitLaws
