pub mod LineLaws
pub mod Lines
pub mod Reading
pub mod State
