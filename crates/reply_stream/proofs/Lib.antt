pub mod HearingLaws
pub mod PartLaws
pub mod OpenLaws
pub mod HoldLaws
pub mod StageLaws
