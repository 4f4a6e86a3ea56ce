pub mod Lines
pub mod Routing
pub mod File
pub use Rattle.ltm_scenario.specs.Data
