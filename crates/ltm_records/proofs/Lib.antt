mod Few
pub mod Fuel
pub mod Pieces
mod Taking
