pub mod Words
pub mod Statuses
pub mod Given
pub mod Explains
pub mod ExplainSteps
pub mod Entered
