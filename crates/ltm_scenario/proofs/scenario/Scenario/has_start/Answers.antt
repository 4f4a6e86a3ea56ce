use Rattle.std.proofs.Common.{is_some, ap, ◌∙◌}
use Rattle.ltm_splits.specs.Rows.{SplitsData, key_of, row_of}
use Rattle.ltm_scenario.proofs.Found.{start_tells}
use Rattle.ltm_scenario.proofs.scenario.Scenario.has_start.Goals as goal

pub returns-in-Some : goal.returns-in-Some
returns-in-Some c =
    ap is_some c.in-Some.ensures.weights
    ∙ ap (λ (v : SplitsData). is_some (row_of v.rows (key_of c.args.node.0 c.args.destination 0))) c.splits.ensures
    ∙ start_tells c.args.self.now.splits c.args.node.0 c.args.destination

pub returns-in-None : goal.returns-in-None
returns-in-None c =
    ap is_some c.in-None.ensures.weights
    ∙ ap (λ (v : SplitsData). is_some (row_of v.rows (key_of c.args.node.0 c.args.destination 0))) c.splits.ensures
    ∙ start_tells c.args.self.now.splits c.args.node.0 c.args.destination
