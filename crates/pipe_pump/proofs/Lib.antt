pub mod Fronts
pub mod Steps
pub mod Gone
pub mod Crosses
pub mod Handed
