pub mod ScriptHeader
pub mod HeaderLines
pub mod HeaderRules
