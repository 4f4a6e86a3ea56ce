pub mod Ones
pub mod Claims
pub mod Frontier
pub use Rattle.ltm_marks.specs.Marks
