pub mod First
pub mod Widest
