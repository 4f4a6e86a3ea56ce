pub mod Passed
pub mod Certified
pub mod Leaving
pub mod Arriving
pub mod Searching
