pub mod OrderLaws
pub mod RunLaws
pub mod DueLaws
pub mod EndLaws
