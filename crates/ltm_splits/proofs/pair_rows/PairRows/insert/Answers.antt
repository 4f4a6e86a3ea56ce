use Rattle.std.proofs.Common.{sym, ◌∙◌, ◌≡◌, Some, None, [], get_or}
use Rattle.ltm_splits.proofs.Place.{lookup_at, put_gap, rising_insert}
use Rattle.ltm_splits.proofs.pair_rows.PairRows.insert.Goals as goal

pub unreachable-requires : goal.unreachable-requires
unreachable-requires c =
    let found = lookup_at c.args.self.now (c.in-Ok.ensures.rising) c.args.from c.in-Ok.field-0 (c.in-Ok.ensures.found) in
    let both : None ≡ Some (get_or c.args.self.now c.in-Ok.field-0 (0, [])).1 = sym c.requires ∙ found in
    cc

pub invariant_of-self-in-Err : goal.invariant_of-self-in-Err
invariant_of-self-in-Err c = rw c.in_ok-insert-in-Err.ensures.ok (rising_insert _ c.self.invariant c.args.from c.args.weights c.in-Err.place (rw c.self.view_is c.in-Err.ensures.gap))

pub returns-clause-ok : goal.returns-clause-ok
returns-clause-ok c = rw (c.in_ok-insert-in-Err.ensures.ok, c.self.view_is) (put_gap c.args.from c.args.weights c.args.self.now c.in-Err.place c.in-Err.ensures.gap)
