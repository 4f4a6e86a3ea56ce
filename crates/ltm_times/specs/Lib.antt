pub mod Moments
pub mod Times
pub mod Queues
pub mod Behind
pub mod Peaks
pub mod Delays
pub mod DelaysBy
pub mod DelayLaws
