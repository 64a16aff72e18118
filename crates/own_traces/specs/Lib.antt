pub mod Whose
pub mod Between
pub mod Moved
pub mod OwnFits
pub mod OwnLaws
