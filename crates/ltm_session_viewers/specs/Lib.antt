pub mod Lines
pub mod Hung
pub mod View
pub mod Serving
