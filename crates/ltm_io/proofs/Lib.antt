pub mod Fronts
pub mod WritesInARow
pub mod Pieces
pub mod Steps
