use Rattle.std.proofs.Common.{◌≡◌, Ok, length, arith, sym, ap, ◌∙◌}
use Rattle.ltm_splits.specs.Rows.{SplitsData, with_rows}
use Rattle.ltm_splits.specs.Table.{rows_of_all}
use Rattle.ltm_splits.specs.Replaced.{entries_of_pair, replaced}
use Rattle.ltm_splits.proofs.Kept.{data_of}
use Rattle.ltm_splits.proofs.Whole.{exchanged, own_few, length_replaced, pair_over, pair_fits}
use Rattle.ltm_splits.proofs.splits.Splits.exchange.Goals as goal

pub overflow_sub-others : goal.overflow_sub-others
overflow_sub-others c =
    let own = c.count_of.ensures ∙ ap (λ (v : SplitsData). length (entries_of_pair v.rows c.args.node.0 c.args.destination)) (sym c.self.view_is) in
    omega (arith, own, own_few c.args.node.0 c.args.destination (rows_of_all c.self.inside.table), c.self.invariant.1)

pub returns-then-count-self-clause-cause : goal.returns-then-count-self-clause-cause
returns-then-count-self-clause-cause c = λ _.
    let n = c.args.node.0 in
    let d = c.args.destination in
    let most : c.self.inside.most_rows ≡ c.args.self.now.most_rows = ap (λ (v : SplitsData). v.most_rows) c.self.view_is in
    let all : length (rows_of_all c.self.inside.table) ≡ length c.args.self.now.rows = ap (λ (v : SplitsData). length v.rows) c.self.view_is in
    let come : length c.rows.result.now ≡ length c.args.rows = ap length c.rows.ensures.rows in
    pair_over c.args.self.now n d c.args.rows (omega (arith, most, all, come, c.count_of.ensures, own_few n d c.args.self.now.rows, c.self.invariant.1, length_replaced n d c.args.rows c.args.self.now.rows, c.if-count-self.true))

pub invariant_of-self-2 : goal.invariant_of-self-2
invariant_of-self-2 c =
    let n = c.args.node.0 in
    let d = c.args.destination in
    let table = c.self.inside.table in
    let own : c.count_of.result ≡ length (entries_of_pair (rows_of_all table) n d) = c.count_of.ensures ∙ ap (λ (v : SplitsData). length (entries_of_pair v.rows n d)) (sym c.self.view_is) in
    let e = exchanged n d table c.make_room.new.self c.exchange.new.self c.args.rows c.exchange.result c.in-Ok.ensures.node c.in-Ok.ensures.destination c.make_room.ensures.rows c.exchange.ensures.was c.exchange.ensures.rows c.self.invariant.0 c.rows.ensures.rising c.requires c.self.invariant.2 in
    let come : length c.rows.result.now ≡ length c.args.rows = ap length c.rows.ensures.rows in (
      e.ordered,
      omega (arith, e.count, own, come, own_few n d (rows_of_all table), c.self.invariant.1),
      e.weighted,
      omega (arith, e.count, own, come, own_few n d (rows_of_all table), c.self.invariant.1, c.if-count-self.false),
    )

pub returns-clause-ok : goal.returns-clause-ok
returns-clause-ok c =
    let n = c.args.node.0 in
    let d = c.args.destination in
    let table = c.self.inside.table in
    let own : c.count_of.result ≡ length (entries_of_pair (rows_of_all table) n d) = c.count_of.ensures ∙ ap (λ (v : SplitsData). length (entries_of_pair v.rows n d)) (sym c.self.view_is) in
    let e = exchanged n d table c.make_room.new.self c.exchange.new.self c.args.rows c.exchange.result c.in-Ok.ensures.node c.in-Ok.ensures.destination c.make_room.ensures.rows c.exchange.ensures.was c.exchange.ensures.rows c.self.invariant.0 c.rows.ensures.rising c.requires c.self.invariant.2 in
    let come : length c.rows.result.now ≡ length c.args.rows = ap length c.rows.ensures.rows in
    let most : c.self.inside.most_rows ≡ c.args.self.now.most_rows = ap (λ (v : SplitsData). v.most_rows) c.self.view_is in
    let now : rows_of_all c.exchange.new.self ≡ replaced c.args.self.now.rows n d c.args.rows = e.rows ∙ ap (λ (v : SplitsData). replaced v.rows n d c.args.rows) c.self.view_is in
    pair_fits c.args.self.now n d c.args.rows (omega (arith, ap length now, e.count, own, come, most, own_few n d (rows_of_all table), c.self.invariant.1, c.if-count-self.false))
    ∙ ap (λ (v : SplitsData). Ok v) (sym (ap (data_of c.self.inside.slots c.self.inside.most_rows) now ∙ ap (λ (v : SplitsData). with_rows v (replaced c.args.self.now.rows n d c.args.rows)) c.self.view_is))

pub returns-clause-was : goal.returns-clause-was
returns-clause-was c =
    let n = c.args.node.0 in
    let d = c.args.destination in
    let e = exchanged n d c.self.inside.table c.make_room.new.self c.exchange.new.self c.args.rows c.exchange.result c.in-Ok.ensures.node c.in-Ok.ensures.destination c.make_room.ensures.rows c.exchange.ensures.was c.exchange.ensures.rows c.self.invariant.0 c.rows.ensures.rising c.requires c.self.invariant.2 in
    e.was_is ∙ ap (λ (v : SplitsData). entries_of_pair v.rows n d) c.self.view_is

pub returns-clause-have_weights : goal.returns-clause-have_weights
returns-clause-have_weights c =
    (exchanged c.args.node.0 c.args.destination c.self.inside.table c.make_room.new.self c.exchange.new.self c.args.rows c.exchange.result c.in-Ok.ensures.node c.in-Ok.ensures.destination c.make_room.ensures.rows c.exchange.ensures.was c.exchange.ensures.rows c.self.invariant.0 c.rows.ensures.rising c.requires c.self.invariant.2).weighted

pub returns-clause-back : goal.returns-clause-back
returns-clause-back c =
    let e = exchanged c.args.node.0 c.args.destination c.self.inside.table c.make_room.new.self c.exchange.new.self c.args.rows c.exchange.result c.in-Ok.ensures.node c.in-Ok.ensures.destination c.make_room.ensures.rows c.exchange.ensures.was c.exchange.ensures.rows c.self.invariant.0 c.rows.ensures.rising c.requires c.self.invariant.2 in
    e.back ∙ ap (λ (v : SplitsData). v.rows) c.self.view_is

pub returns-clause-was_weights : goal.returns-clause-was_weights
returns-clause-was_weights c =
    (exchanged c.args.node.0 c.args.destination c.self.inside.table c.make_room.new.self c.exchange.new.self c.args.rows c.exchange.result c.in-Ok.ensures.node c.in-Ok.ensures.destination c.make_room.ensures.rows c.exchange.ensures.was c.exchange.ensures.rows c.self.invariant.0 c.rows.ensures.rising c.requires c.self.invariant.2).was_weighted
