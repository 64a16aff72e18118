pub mod Places
pub mod Live
