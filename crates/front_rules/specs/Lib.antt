pub mod Acts
pub mod RuleLaws
