pub mod Finding
pub mod Apart
pub mod Counted
pub mod Growing
pub mod Joined
pub mod Reading
