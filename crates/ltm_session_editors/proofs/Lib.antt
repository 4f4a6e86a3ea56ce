pub mod Calls
pub mod Crews
pub mod Told
pub mod Answered
pub mod Each
pub mod Cut
pub mod Missing
