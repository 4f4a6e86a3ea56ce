pub mod Ends
pub mod Nodes
pub mod Rooms
pub mod Still
