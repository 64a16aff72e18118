pub mod RefusedAlone
