use Rattle.std.proofs.Common.{List, All, sym, subst}
use Rattle.ltm_splits.specs.Table.{Entry, rows_of_pair}
use Rattle.ltm_scenario.specs.IsScenario.{IsSplitOf}
use Rattle.ltm_scenario.specs.Parts.{scenario_in}
use Rattle.ltm_scenario.proofs.Pairs.{said_are_splits}
use Rattle.ltm_scenario.proofs.parts.Parts.edit_splits.Goals as goal

pub change_pair-requires-clause-rows : goal.change_pair-requires-clause-rows
change_pair-requires-clause-rows c =
    let pair = c.in-Ok.pair in
    subst (λ (es : List Entry). All (IsSplitOf (scenario_in c.args.self.now)) (rows_of_pair pair.0.0 pair.1 es)) (sym c.in-Ok-rows_said.ensures.said)
    (said_are_splits (scenario_in c.args.self.now) pair.0.0 pair.1 c.args.rows.now c.in-Ok.ensures.node c.in-Ok.ensures.destination c.in-Ok.ensures.ends)
