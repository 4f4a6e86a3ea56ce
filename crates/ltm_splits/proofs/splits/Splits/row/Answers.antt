use Rattle.std.proofs.Common.{sym, ap, ◌∙◌}
use Rattle.std.specs.Ordering.{nat_cmp}
use Rattle.std.specs.BTreeMap.{is_at}
use Rattle.std.specs.Map.{lookup}
use Rattle.ltm_splits.specs.Rows.{SplitsData, row_of, key_of}
use Rattle.ltm_splits.proofs.Pairs.{row_all}
use Rattle.ltm_splits.proofs.splits.Splits.row.Goals as goal

pub returns-in-Some-clause-weights : goal.returns-in-Some-clause-weights
returns-in-Some-clause-weights c =
    c.get.ensures.weights ∙ ap (lookup (is_at (nat_cmp c.args.from))) c.in-Some.ensures
    ∙ sym (row_all c.args.node.0 c.args.destination c.args.from c.self.inside.table)
    ∙ ap (λ (v : SplitsData). row_of v.rows (key_of c.args.node.0 c.args.destination c.args.from)) c.self.view_is

pub returns-in-None-clause-weights : goal.returns-in-None-clause-weights
returns-in-None-clause-weights c =
    ap (lookup (is_at (nat_cmp c.args.from))) c.in-None.ensures
    ∙ sym (row_all c.args.node.0 c.args.destination c.args.from c.self.inside.table)
    ∙ ap (λ (v : SplitsData). row_of v.rows (key_of c.args.node.0 c.args.destination c.args.from)) c.self.view_is
