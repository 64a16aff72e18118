pub mod KeptLaws
pub mod DueLaws
pub mod ReadyLaws
pub mod TakenLaws
pub mod HearLaws
pub mod HearsLaws
