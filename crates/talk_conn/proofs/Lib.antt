pub mod RunLaws
pub mod KeptLaws
