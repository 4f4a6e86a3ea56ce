pub mod Repaired
pub mod Reported
mod OneTrial
