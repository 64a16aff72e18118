pub mod GivenLaws
