pub mod Advance
pub mod Looks
pub mod Opening
pub mod Reader
pub mod Request
pub mod RequestLaws
pub mod Starts
