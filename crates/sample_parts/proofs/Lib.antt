pub mod FrontLaws
pub mod TextLaws
pub mod PlanLaws
pub mod StopLaws
