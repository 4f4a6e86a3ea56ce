pub mod Reported
pub mod Delayed
pub mod Rowed
mod RowsTell
mod Telling
mod Gapped
