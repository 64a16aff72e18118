pub mod Records
pub mod RecordLaws
pub mod Pairs
pub mod PairLaws
pub mod Entries
