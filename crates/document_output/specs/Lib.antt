pub mod Folders
pub mod Numbers
pub mod Output
pub mod Paths
pub mod Pieces
pub mod Ranges
pub mod Rules
pub mod Values
