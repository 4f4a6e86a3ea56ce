-- Which loadings are made without history.
use Rattle.std.specs.Prelude.{ℕ, ◌||◌, Bool, not, nat_le, length}
use Rattle.ltm_scenario.specs.Data.{ScenarioData}

-- from so many destinations on
abbrev pub fewest_destinations : ℕ
fewest_destinations = 16

-- so is every loading of a case that keeps none
abbrev pub is_better_lean : ScenarioData → Bool
is_better_lean s = not s.setup.history || nat_le fewest_destinations (length s.destinations)
