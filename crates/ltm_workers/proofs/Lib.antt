pub mod Acts
pub mod Drives
pub mod Endings
pub mod Holding
pub mod Owned
pub mod Turning
pub mod Working
mod Editing
