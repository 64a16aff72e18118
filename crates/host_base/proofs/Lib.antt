pub mod AnyLaws
pub mod SplitLaws
