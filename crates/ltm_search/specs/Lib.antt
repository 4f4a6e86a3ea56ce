pub mod Ways
pub mod Links
pub mod Arrivals
pub mod Search
