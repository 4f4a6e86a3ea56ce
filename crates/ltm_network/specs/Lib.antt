pub mod Names
pub mod Found
pub mod Numbers
pub mod Nodes
pub mod Network
pub mod IsNetwork
pub mod Tables
pub mod Places
