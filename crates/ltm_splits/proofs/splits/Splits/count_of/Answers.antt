use Rattle.std.proofs.Common.{length, ap, sym, ◌∙◌}
use Rattle.ltm_splits.specs.Rows.{SplitsData}
use Rattle.ltm_splits.specs.Replaced.{entries_of_pair}
use Rattle.ltm_splits.proofs.Whole.{entries_all}
use Rattle.ltm_splits.proofs.splits.Splits.count_of.Goals as goal

pub returns-in-Some : goal.returns-in-Some
returns-in-Some c =
    ap length (c.rows.ensures.rows ∙ c.in-Some.ensures ∙ sym (entries_all c.args.node.0 c.args.destination c.self.inside.table))
    ∙ ap (λ (v : SplitsData). length (entries_of_pair v.rows c.args.node.0 c.args.destination)) c.self.view_is

pub returns-in-None : goal.returns-in-None
returns-in-None c =
    ap length (c.in-None.ensures ∙ sym (entries_all c.args.node.0 c.args.destination c.self.inside.table))
    ∙ ap (λ (v : SplitsData). length (entries_of_pair v.rows c.args.node.0 c.args.destination)) c.self.view_is
