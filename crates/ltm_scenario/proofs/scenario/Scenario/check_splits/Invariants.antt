use Rattle.std.proofs.Common.{◌≡◌, All, length}
use Rattle.ltm_scenario.specs.Check.{first_over, split_row_checked}
use Rattle.ltm_scenario.specs.IsScenario.{IsSplitOf}
use Rattle.ltm_scenario.proofs.scenario.Scenario.check_splits.Given as goal

abbrev pub invariant-rows : goal.invariant-rows
invariant-rows l = record {
  rest : first_over (split_row_checked l.self) l.rows ≡ first_over (split_row_checked l.self) l.self.splits;
  all : All (IsSplitOf l.self) l.rows;
}

abbrev pub decreases-rows : goal.decreases-rows
decreases-rows l = length l.rows
