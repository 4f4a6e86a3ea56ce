-- What is worked on while a scenario is loaded.
use Rattle.std.specs.Prelude.{ℕ}
use Rattle.ltm_curve.specs.declared.curves.Curves.{Curves}
use Rattle.ltm_scenario.specs.Data.{ScenarioData}
use Rattle.ltm_setting.specs.Setting.{setting_of}
use Rattle.ltm_flows.specs.Working.{HasRoom, IsWorkingAt}

-- there is room for the inputs of each node of a scenario
abbrev pub HasNodeRoom : ScenarioData → ℕ → Type 0
HasNodeRoom s room = HasRoom (setting_of s) room

-- within a slot the first nodes of a scenario are done, and the counts of the others are carried on
abbrev pub WorksAt : ScenarioData → Curves → ℕ → ℕ → Type 0
WorksAt s c slot nodes = IsWorkingAt (setting_of s) c slot nodes
