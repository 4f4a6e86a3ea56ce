pub mod Fetching
pub mod Headers
pub mod Memory
pub mod Places
pub mod Slices
pub mod Unsplit
pub mod Keeping
