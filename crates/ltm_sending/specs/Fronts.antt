-- The front of a scenario's loading.
use Rattle.std.specs.Prelude.{ℕ}
use Rattle.ltm_curve.specs.declared.curves.Curves.{Curves}
use Rattle.ltm_scenario.specs.Data.{ScenarioData}
use Rattle.ltm_setting.specs.Setting.{setting_of}
use Rattle.ltm_sending.specs.Front.{IsAtFront}

-- curves of a scenario's shape that are the front of its loading up to a slot
abbrev pub FrontAt : ScenarioData → Curves → ℕ → Type 0
FrontAt s c slot = IsAtFront (setting_of s) c slot
