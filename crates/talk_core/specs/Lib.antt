pub mod View
pub mod Hearing
pub mod Acting
pub mod Setting
pub mod Knows
pub mod Laws
