pub mod EndProofs
