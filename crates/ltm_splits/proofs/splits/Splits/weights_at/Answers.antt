use Rattle.std.proofs.Common.{sym, ap, ◌∙◌}
use Rattle.ltm_splits.specs.Rows.{SplitsData, row_in_force}
use Rattle.ltm_splits.specs.Entries.{entry_in_force}
use Rattle.ltm_splits.proofs.Pairs.{force_all}
use Rattle.ltm_splits.proofs.splits.Splits.weights_at.Goals as goal

pub returns-in-Some : goal.returns-in-Some
returns-in-Some c =
    c.at.ensures ∙ ap (λ es. entry_in_force es c.args.slot) c.in-Some.ensures
    ∙ sym (force_all c.args.node.0 c.args.destination c.args.slot c.self.inside.table)
    ∙ ap (λ (v : SplitsData). row_in_force v.rows c.args.node.0 c.args.destination c.args.slot) c.self.view_is

pub returns-in-None : goal.returns-in-None
returns-in-None c =
    ap (λ es. entry_in_force es c.args.slot) c.in-None.ensures
    ∙ sym (force_all c.args.node.0 c.args.destination c.args.slot c.self.inside.table)
    ∙ ap (λ (v : SplitsData). row_in_force v.rows c.args.node.0 c.args.destination c.args.slot) c.self.view_is
