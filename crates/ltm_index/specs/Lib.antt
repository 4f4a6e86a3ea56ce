pub mod Sizes
pub mod Cells
pub mod Chains
pub mod Lists
