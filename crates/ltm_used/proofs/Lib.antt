pub mod Outside
pub mod Counting
pub mod Finding
pub mod Marking
pub mod Listing
pub mod AtNodes
