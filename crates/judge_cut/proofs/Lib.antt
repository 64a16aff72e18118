pub mod ViewLaws
