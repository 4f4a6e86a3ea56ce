pub mod Chaining
pub mod Writes
pub mod Linked
pub mod Taking
pub mod Putting
pub mod Reading
pub mod Indexed
