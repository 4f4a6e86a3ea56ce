use Rattle.std.proofs.Common.{◌≡◌, ◌+◌, ◌<◌, length, arith, None, sym, ap, ◌∙◌, subst}
use Rattle.ltm_splits.specs.Rows.{SplitsData, row_of, put_in, put_back, with_rows}
use Rattle.ltm_splits.specs.Table.{rows_of_all}
use Rattle.ltm_splits.proofs.Kept.{added, room_keeps_none, data_of}
use Rattle.ltm_splits.proofs.splits.Splits.add.Goals as goal

pub insert-requires-clause-new : goal.insert-requires-clause-new
insert-requires-clause-new c =
    room_keeps_none c.self.inside.table c.make_room.new.self c.args.key.node.0 c.args.key.destination c.args.key.from (c.make_room.ensures.lists c.args.key.node.0 c.args.key.destination) (ap (λ (v : SplitsData). row_of v.rows c.args.key) c.self.view_is ∙ c.requires.new)

pub invariant_of-self-2 : goal.invariant_of-self-2
invariant_of-self-2 c =
    let none : row_of (rows_of_all c.self.inside.table) c.args.key ≡ None = ap (λ (v : SplitsData). row_of v.rows c.args.key) c.self.view_is ∙ c.requires.new in
    let a = added c.self.inside.table c.args.key.node.0 c.args.key.destination c.args.key.from c.args.weights c.make_room.new.self c.insert.new.self c.in_ok-make_room.ensures.node c.in_ok-make_room.ensures.destination c.make_room.ensures.rows none c.in_ok-insert.ensures.ok c.self.invariant.0 c.requires.weights c.self.invariant.2 in
    let few : length (rows_of_all c.self.inside.table) < c.self.inside.most_rows = subst (λ (v : SplitsData). length v.rows < v.most_rows) (sym c.self.view_is) c.requires.few in
    (a.ordered, ap (λ n. n + 1) c.self.invariant.1 ∙ sym a.count, a.weighted, omega (arith, few, a.count))

pub returns-clause-ok : goal.returns-clause-ok
returns-clause-ok c =
    let none : row_of (rows_of_all c.self.inside.table) c.args.key ≡ None = ap (λ (v : SplitsData). row_of v.rows c.args.key) c.self.view_is ∙ c.requires.new in
    let a = added c.self.inside.table c.args.key.node.0 c.args.key.destination c.args.key.from c.args.weights c.make_room.new.self c.insert.new.self c.in_ok-make_room.ensures.node c.in_ok-make_room.ensures.destination c.make_room.ensures.rows none c.in_ok-insert.ensures.ok c.self.invariant.0 c.requires.weights c.self.invariant.2 in
    ap (data_of c.self.inside.slots c.self.inside.most_rows) a.rows ∙ ap (λ (v : SplitsData). with_rows v (put_in v.rows c.args.key c.args.weights)) c.self.view_is

pub returns-clause-back : goal.returns-clause-back
returns-clause-back c =
    let none : row_of (rows_of_all c.self.inside.table) c.args.key ≡ None = ap (λ (v : SplitsData). row_of v.rows c.args.key) c.self.view_is ∙ c.requires.new in
    let a = added c.self.inside.table c.args.key.node.0 c.args.key.destination c.args.key.from c.args.weights c.make_room.new.self c.insert.new.self c.in_ok-make_room.ensures.node c.in_ok-make_room.ensures.destination c.make_room.ensures.rows none c.in_ok-insert.ensures.ok c.self.invariant.0 c.requires.weights c.self.invariant.2 in
    subst (λ (v : SplitsData). put_back (rows_of_all c.insert.new.self) c.args.key (row_of v.rows c.args.key) ≡ v.rows) c.self.view_is a.back

pub returns-clause-stands : goal.returns-clause-stands
returns-clause-stands c =
    let none : row_of (rows_of_all c.self.inside.table) c.args.key ≡ None = ap (λ (v : SplitsData). row_of v.rows c.args.key) c.self.view_is ∙ c.requires.new in
    let a = added c.self.inside.table c.args.key.node.0 c.args.key.destination c.args.key.from c.args.weights c.make_room.new.self c.insert.new.self c.in_ok-make_room.ensures.node c.in_ok-make_room.ensures.destination c.make_room.ensures.rows none c.in_ok-insert.ensures.ok c.self.invariant.0 c.requires.weights c.self.invariant.2 in
    a.there_now

pub returns-clause-have_weights : goal.returns-clause-have_weights
returns-clause-have_weights c =
    let none : row_of (rows_of_all c.self.inside.table) c.args.key ≡ None = ap (λ (v : SplitsData). row_of v.rows c.args.key) c.self.view_is ∙ c.requires.new in
    let a = added c.self.inside.table c.args.key.node.0 c.args.key.destination c.args.key.from c.args.weights c.make_room.new.self c.insert.new.self c.in_ok-make_room.ensures.node c.in_ok-make_room.ensures.destination c.make_room.ensures.rows none c.in_ok-insert.ensures.ok c.self.invariant.0 c.requires.weights c.self.invariant.2 in
    a.weighted
