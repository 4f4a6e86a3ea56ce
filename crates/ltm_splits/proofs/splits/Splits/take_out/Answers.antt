use Rattle.std.proofs.Common.{◌≡◌, ◌+◌, length, true, false, sym, ap, ◌∙◌, arith}
use Rattle.ltm_splits.specs.Rows.{SplitsData, key_of, taken_out, with_rows}
use Rattle.ltm_splits.specs.Table.{rows_of_all}
use Rattle.ltm_splits.proofs.Kept.{removed, data_of}
use Rattle.ltm_splits.proofs.splits.Splits.take_out.Goals as goal

pub overflow_sub-self : goal.overflow_sub-self
overflow_sub-self c =
    let r = removed c.self.inside.table c.args.node.0 c.args.destination c.args.from true c.remove.new.self (sym c.if-remove.true ∙ c.remove.ensures.stood) c.remove.ensures.rows c.self.invariant.0 c.self.invariant.2 in
    let is : length (rows_of_all c.remove.new.self) + 1 ≡ length (rows_of_all c.self.inside.table) = r.count in
    omega (arith, c.self.invariant.1)

pub invariant_of-self : goal.invariant_of-self
invariant_of-self c =
    let r = removed c.self.inside.table c.args.node.0 c.args.destination c.args.from true c.remove.new.self (sym c.if-remove.true ∙ c.remove.ensures.stood) c.remove.ensures.rows c.self.invariant.0 c.self.invariant.2 in
    let is : length (rows_of_all c.remove.new.self) + 1 ≡ length (rows_of_all c.self.inside.table) = r.count in
    (r.ordered, omega (arith, c.self.invariant.1), r.weighted, omega (arith, c.self.invariant.3))

pub invariant_of-self-else-remove : goal.invariant_of-self-else-remove
invariant_of-self-else-remove c =
    let r = removed c.self.inside.table c.args.node.0 c.args.destination c.args.from false c.remove.new.self (sym c.if-remove.false ∙ c.remove.ensures.stood) c.remove.ensures.rows c.self.invariant.0 c.self.invariant.2 in
    let is : length (rows_of_all c.remove.new.self) + 0 ≡ length (rows_of_all c.self.inside.table) = r.count in
    (r.ordered, omega (arith, c.self.invariant.1), r.weighted, omega (arith, c.self.invariant.3))

pub returns-then-remove-clause-rows : goal.returns-then-remove-clause-rows
returns-then-remove-clause-rows c =
    let r = removed c.self.inside.table c.args.node.0 c.args.destination c.args.from true c.remove.new.self (sym c.if-remove.true ∙ c.remove.ensures.stood) c.remove.ensures.rows c.self.invariant.0 c.self.invariant.2 in
    ap (data_of c.self.inside.slots c.self.inside.most_rows) r.rows ∙ ap (λ (v : SplitsData). with_rows v (taken_out v.rows (key_of c.args.node.0 c.args.destination c.args.from))) c.self.view_is

pub returns-else-remove-clause-rows : goal.returns-else-remove-clause-rows
returns-else-remove-clause-rows c =
    let r = removed c.self.inside.table c.args.node.0 c.args.destination c.args.from false c.remove.new.self (sym c.if-remove.false ∙ c.remove.ensures.stood) c.remove.ensures.rows c.self.invariant.0 c.self.invariant.2 in
    ap (data_of c.self.inside.slots c.self.inside.most_rows) r.rows ∙ ap (λ (v : SplitsData). with_rows v (taken_out v.rows (key_of c.args.node.0 c.args.destination c.args.from))) c.self.view_is

pub returns-then-remove-clause-have_weights : goal.returns-then-remove-clause-have_weights
returns-then-remove-clause-have_weights c =
    (removed c.self.inside.table c.args.node.0 c.args.destination c.args.from true c.remove.new.self (sym c.if-remove.true ∙ c.remove.ensures.stood) c.remove.ensures.rows c.self.invariant.0 c.self.invariant.2).weighted

pub returns-else-remove-clause-have_weights : goal.returns-else-remove-clause-have_weights
returns-else-remove-clause-have_weights c =
    (removed c.self.inside.table c.args.node.0 c.args.destination c.args.from false c.remove.new.self (sym c.if-remove.false ∙ c.remove.ensures.stood) c.remove.ensures.rows c.self.invariant.0 c.self.invariant.2).weighted
