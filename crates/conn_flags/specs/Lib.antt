pub mod View
pub mod Knows
pub mod Form
pub mod Fits
pub mod Laws
