use Rattle.std.proofs.Common.{◌≡◌, All, sym, ap, subst, ◌∙◌}
use Rattle.std.proofs.lemmas.List.Elements.{All-head, All-rest}
use Rattle.ltm_splits.specs.Rows.{SplitsData}
use Rattle.ltm_scenario.specs.Data.{ScenarioData}
use Rattle.ltm_units.specs.Results.{◌>>>◌}
use Rattle.ltm_scenario.specs.Check.{first_over, split_row_checked}
use Rattle.ltm_scenario.specs.IsScenario.{IsSplitOf}
use Rattle.ltm_scenario.proofs.scenario.Scenario.check_splits.Goals as goal

pub rows-preserved : goal.rows-preserved
rows-preserved c =
    let s : ScenarioData = c.args.self.now in
    record {
      rest = ap (λ r. r >>> first_over (split_row_checked s) c.next.new.self) c.in_ok-check_split_row.ensures ∙ sym (ap (first_over (split_row_checked s)) c.in-Some.ensures.steps) ∙ c.rows.invariant.rest;
      all = All-rest (IsSplitOf s) _ c.next.new.self c.rows.rows c.in-Some.ensures.steps c.rows.invariant.all;
    }

pub rows-init : goal.rows-init
rows-init c =
    let s : ScenarioData = c.args.self.now in
    let all : c.rows-rows.result ≡ s.splits = c.rows-rows.ensures.rows ∙ ap (λ (d : SplitsData). d.rows) c.splits.ensures in
    record {
      rest = ap (first_over (split_row_checked s)) all;
      all = subst (All (IsSplitOf s)) (sym all) c.setup-setup.ensures.scenario.splits;
    }

pub check_split_row-requires : goal.check_split_row-requires
check_split_row-requires c =
    let s : ScenarioData = c.args.self.now in
    All-head (IsSplitOf s) (c.in-Some.key, c.in-Some.weights.now) c.next.new.self (subst (All (IsSplitOf s)) c.in-Some.ensures.steps c.rows.invariant.all)
