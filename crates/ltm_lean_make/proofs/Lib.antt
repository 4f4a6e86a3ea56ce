pub mod Pushed
pub mod First
pub mod Widening
