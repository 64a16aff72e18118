pub mod Rows
pub mod ClientRows
pub mod ChildRows
pub mod Ties
pub mod Counts
