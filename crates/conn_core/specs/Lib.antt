pub mod Kind
pub mod KindLaws
pub mod Given
