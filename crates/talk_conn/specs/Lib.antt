pub mod View
pub mod Slot
pub mod Parts
pub mod Step
