use Rattle.std.proofs.Common.{[], sym, arith}
use Rattle.std.proofs.lemmas.List.{get_or_default}
use Rattle.ltm_splits.proofs.Place.{lookup_at, lookup_gap}
use Rattle.ltm_splits.proofs.pair_rows.PairRows.get.Goals as goal

pub returns-in-Ok-clause-weights : goal.returns-in-Ok-clause-weights
returns-in-Ok-clause-weights c =
    let found = lookup_at c.args.self.now c.in-Ok.ensures.rising c.args.from c.in-Ok.place c.in-Ok.ensures.found in
    let read = get_or_default c.args.self.now c.in-Ok.place c.index-as_slice-place.result (0, []) c.in-Ok.ensures.found.in_range in
    grind (arith, c.self.view_is, c.as_slice.ensures, c.index-as_slice-place.is)

pub returns-in-Err-clause-weights : goal.returns-in-Err-clause-weights
returns-in-Err-clause-weights c = sym (lookup_gap c.args.from c.args.self.now _ c.in-Err.ensures.gap)
