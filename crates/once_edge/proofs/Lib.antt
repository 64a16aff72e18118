pub mod Quiet
pub mod Full
pub mod Crosses
mod Heard
pub mod Handed
