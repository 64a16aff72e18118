pub mod Ascii
pub mod CauseText
pub mod FieldLists
pub mod LimitRanges
pub mod Outsides
pub mod SiteRules
