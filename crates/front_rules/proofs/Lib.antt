pub mod ActLaws
pub mod ChildLaws
