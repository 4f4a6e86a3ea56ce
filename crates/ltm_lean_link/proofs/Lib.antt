pub mod Scattered
pub mod Gathered
pub mod Summing
