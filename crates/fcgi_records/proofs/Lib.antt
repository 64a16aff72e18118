pub mod EntryLaws
pub mod PairLaws
pub mod RecordLaws
pub mod SentLaws
pub mod WrittenLaws
mod Computed
