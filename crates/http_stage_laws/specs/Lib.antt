pub mod Staged
pub mod Inward
pub mod Laws
pub mod HeardStages
