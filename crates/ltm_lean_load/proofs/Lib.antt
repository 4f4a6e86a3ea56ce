pub mod Adding
pub mod Elements
pub mod Moving
pub mod Published
pub mod Trading
