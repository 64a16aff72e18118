pub mod NumberLaws
pub mod OutputLaws
pub mod SpanLaws
pub mod FolderLaws
