use Rattle.std.proofs.Common.{◌≡◌, All, length}
use Rattle.ltm_scenario.specs.Check.{first_over, demand_row_checked}
use Rattle.ltm_scenario.specs.IsScenario.{IsDemandOf}
use Rattle.ltm_scenario.proofs.scenario.Scenario.check_demand.Given as goal

abbrev pub invariant-rows : goal.invariant-rows
invariant-rows l = record {
  rest : first_over (demand_row_checked l.self) l.rows ≡ first_over (demand_row_checked l.self) l.self.demand;
  all : All (IsDemandOf l.self) l.rows;
}

abbrev pub decreases-rows : goal.decreases-rows
decreases-rows l = length l.rows
