pub mod EventLaws
pub mod HearLaws
pub mod StartLaws
pub mod TextLaws
pub mod TurnLaws
