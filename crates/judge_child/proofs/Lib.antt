mod CountLaws
mod FrontLaws
mod GivenLaws
mod RunLaws
pub mod PartLaws
