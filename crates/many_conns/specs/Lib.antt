pub mod Kept
pub mod Kind
pub mod Lists
pub mod Apart
pub mod Turns
