pub mod Sizes
pub mod Starts
pub mod Layouts
pub mod Rows
pub mod Claims
pub mod Parts
pub mod Begins
