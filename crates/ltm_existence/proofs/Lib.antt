pub mod Fixing
pub mod Rounds
pub mod Steps
pub mod NextCounts
pub mod Fronts
