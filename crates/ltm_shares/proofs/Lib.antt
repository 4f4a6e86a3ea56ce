pub mod Factors
pub mod Levels
pub mod Steps
pub mod Unique
