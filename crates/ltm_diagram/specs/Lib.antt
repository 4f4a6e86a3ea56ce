pub mod Limits
pub mod Passing
pub mod InRange
pub mod Delays
