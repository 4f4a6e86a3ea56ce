pub mod Existence
pub mod Scenarios
