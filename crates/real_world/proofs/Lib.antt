pub mod SideLaws
pub mod Crosses
