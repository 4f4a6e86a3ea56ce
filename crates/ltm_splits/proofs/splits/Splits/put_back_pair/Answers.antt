use Rattle.std.proofs.Common.{◌≡◌, ◌≤◌, true, refl, length, arith, sym, ap, subst, ◌∙◌}
use Rattle.std.specs.List.{list_any}
use Rattle.ltm_splits.specs.Rows.{SplitsData, is_of, with_rows}
use Rattle.ltm_splits.specs.Table.{rows_of_all}
use Rattle.ltm_splits.specs.Replaced.{entries_of_pair, replaced}
use Rattle.ltm_splits.proofs.Kept.{data_of}
use Rattle.ltm_splits.proofs.Whole.{exchanged, own_few, stands_there}
use Rattle.ltm_splits.proofs.splits.Splits.put_back_pair.Goals as goal

pub overflow_sub-others : goal.overflow_sub-others
overflow_sub-others c =
    let own = c.count_of.ensures ∙ ap (λ (v : SplitsData). length (entries_of_pair v.rows c.args.node.0 c.args.destination)) (sym c.self.view_is) in
    omega (arith, own, own_few c.args.node.0 c.args.destination (rows_of_all c.self.inside.table), c.self.invariant.1)

pub exchange-was-requires-clause-node : goal.exchange-was-requires-clause-node
exchange-was-requires-clause-node c = (stands_there c.args.node.0 c.args.destination c.self.inside.table (subst (λ (v : SplitsData). list_any (is_of c.args.node.0 c.args.destination) v.rows ≡ true) (sym c.self.view_is) c.requires.stands)).0

pub exchange-was-requires-clause-destination : goal.exchange-was-requires-clause-destination
exchange-was-requires-clause-destination c = (stands_there c.args.node.0 c.args.destination c.self.inside.table (subst (λ (v : SplitsData). list_any (is_of c.args.node.0 c.args.destination) v.rows ≡ true) (sym c.self.view_is) c.requires.stands)).1

pub invariant_of-self : goal.invariant_of-self
invariant_of-self c =
    let n = c.args.node.0 in
    let d = c.args.destination in
    let table = c.self.inside.table in
    let there = stands_there n d table (subst (λ (v : SplitsData). list_any (is_of n d) v.rows ≡ true) (sym c.self.view_is) c.requires.stands) in
    let own : c.count_of.result ≡ length (entries_of_pair (rows_of_all table) n d) = c.count_of.ensures ∙ ap (λ (v : SplitsData). length (entries_of_pair v.rows n d)) (sym c.self.view_is) in
    let e = exchanged n d table table c.exchange-was.new.self c.args.rows c.exchange-was.result there.0 there.1 refl c.exchange-was.ensures.was c.exchange-was.ensures.rows c.self.invariant.0 c.rows.ensures.rising c.requires.weights c.self.invariant.2 in
    let come : length c.rows.result.now ≡ length c.args.rows = ap length c.rows.ensures.rows in
    let few : length (replaced (rows_of_all table) n d c.args.rows) ≤ c.self.inside.most_rows = subst (λ (v : SplitsData). length (replaced v.rows n d c.args.rows) ≤ v.most_rows) (sym c.self.view_is) c.requires.few in (
      e.ordered,
      omega (arith, e.count, own, come, own_few n d (rows_of_all table), c.self.invariant.1),
      e.weighted,
      omega (arith, ap length e.rows, few),
    )

pub returns-clause-rows : goal.returns-clause-rows
returns-clause-rows c =
    let n = c.args.node.0 in
    let d = c.args.destination in
    let table = c.self.inside.table in
    let there = stands_there n d table (subst (λ (v : SplitsData). list_any (is_of n d) v.rows ≡ true) (sym c.self.view_is) c.requires.stands) in
    let e = exchanged n d table table c.exchange-was.new.self c.args.rows c.exchange-was.result there.0 there.1 refl c.exchange-was.ensures.was c.exchange-was.ensures.rows c.self.invariant.0 c.rows.ensures.rising c.requires.weights c.self.invariant.2 in
    ap (data_of c.self.inside.slots c.self.inside.most_rows) e.rows ∙ ap (λ (v : SplitsData). with_rows v (replaced v.rows n d c.args.rows)) c.self.view_is

pub returns-clause-have_weights : goal.returns-clause-have_weights
returns-clause-have_weights c =
    let n = c.args.node.0 in
    let d = c.args.destination in
    let table = c.self.inside.table in
    let there = stands_there n d table (subst (λ (v : SplitsData). list_any (is_of n d) v.rows ≡ true) (sym c.self.view_is) c.requires.stands) in
    (exchanged n d table table c.exchange-was.new.self c.args.rows c.exchange-was.result there.0 there.1 refl c.exchange-was.ensures.was c.exchange-was.ensures.rows c.self.invariant.0 c.rows.ensures.rising c.requires.weights c.self.invariant.2).weighted
