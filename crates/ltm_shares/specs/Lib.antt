pub mod Demands
pub mod Factors
pub mod Rounds
pub mod Sent
pub mod Shares
