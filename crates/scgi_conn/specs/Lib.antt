pub mod Ends
pub mod Stages
pub mod Parts
pub mod Slot
pub mod Step
pub mod View
pub mod Keeps
pub mod Follows
