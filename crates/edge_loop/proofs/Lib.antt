pub mod Causes
pub mod Quiet
pub mod Stops
pub mod Fresh
pub mod Closing
pub mod Handed
