pub mod Lists
pub mod Filling
pub mod Arms
pub mod Whole
pub mod Idle
pub mod Joined
pub mod Told
pub mod Weighing
