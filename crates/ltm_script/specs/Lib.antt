pub mod Commands
pub mod Edits
pub mod Gives
pub mod Line
pub mod Members
pub mod Weights
pub mod Rows
