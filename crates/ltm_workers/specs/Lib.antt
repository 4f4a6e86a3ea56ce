pub mod Draining
pub mod Beside
pub mod Driving
pub mod Hands
pub use Rattle.ltm_repair.specs.Runs
