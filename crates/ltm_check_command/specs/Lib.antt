pub mod Lines
pub mod Loaded
pub mod Checks
pub mod Curves
