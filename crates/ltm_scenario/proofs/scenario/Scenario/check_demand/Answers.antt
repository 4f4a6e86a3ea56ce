use Rattle.std.proofs.Common.{◌≡◌, All, sym, ap, subst, ◌∙◌}
use Rattle.std.proofs.lemmas.List.Elements.{All-rest}
use Rattle.ltm_demand.specs.Rows.{DemandData}
use Rattle.ltm_scenario.specs.Data.{ScenarioData}
use Rattle.ltm_units.specs.Results.{◌>>>◌}
use Rattle.ltm_scenario.specs.Check.{first_over, demand_row_checked}
use Rattle.ltm_scenario.specs.IsScenario.{IsDemandOf}
use Rattle.ltm_scenario.proofs.scenario.Scenario.check_demand.Goals as goal

pub rows-preserved : goal.rows-preserved
rows-preserved c =
    let s : ScenarioData = c.args.self.now in
    record {
      rest = ap (λ r. r >>> first_over (demand_row_checked s) c.next.new.self) c.in_ok-check_demand_row.ensures ∙ sym (ap (first_over (demand_row_checked s)) c.in-Some.ensures.steps) ∙ c.rows.invariant.rest;
      all = All-rest (IsDemandOf s) _ c.next.new.self c.rows.rows c.in-Some.ensures.steps c.rows.invariant.all;
    }

pub rows-init : goal.rows-init
rows-init c =
    let s : ScenarioData = c.args.self.now in
    let all : c.rows-rows.result ≡ s.demand = c.rows-rows.ensures.all ∙ ap (λ (d : DemandData). d.rows) c.demand.ensures.demand in
    record {
      rest = ap (first_over (demand_row_checked s)) all;
      all = subst (All (IsDemandOf s)) (sym all) c.setup-setup.ensures.scenario.demand;
    }
