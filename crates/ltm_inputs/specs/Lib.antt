pub mod Idle
pub mod Parts
pub mod Reads
pub mod Widest
pub use Rattle.ltm_loading.specs.Pairs
pub use Rattle.ltm_loading.specs.Setting
pub use Rattle.ltm_sending.specs.Fronts
