pub mod Adding
pub mod Choice
pub mod Nodes
pub mod Publishing
