pub mod Thinning
pub mod Moving
pub mod Sending
pub mod Listing
