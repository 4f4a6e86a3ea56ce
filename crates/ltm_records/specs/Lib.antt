pub mod Fields
pub mod Left
pub mod Pieces
pub mod Weights
