pub mod Sums
pub mod ClientTallies
pub mod ChildTallies
pub mod RowFits
