pub mod Demands
pub mod Rules
pub mod Good
pub mod Verdict
