pub mod Front
pub mod MayLeave
pub mod Fronts
