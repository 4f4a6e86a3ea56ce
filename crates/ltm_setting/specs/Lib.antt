pub mod Setting
pub mod ScenarioLaw
pub mod Places
pub use Rattle.ltm_scenario.specs.Data
pub use Rattle.ltm_scenario.specs.IsScenario
