pub mod Status
pub mod Words
pub mod Answers
pub mod Program
pub mod Run
pub use Rattle.ltm_routes_command.specs.File
pub use Rattle.ltm_try_command.specs.Trial
pub use Rattle.ltm_routes_command.specs.declared.lines.RouteLines
