use Rattle.std.proofs.Common.{◌<◌, ◌-◌, [], subst, sym, arith}
use Rattle.std.proofs.lemmas.List.{get_or_default}
use Rattle.ltm_splits.specs.Entries.{IsCount}
use Rattle.ltm_splits.proofs.Place.{force_none, force_last}
use Rattle.ltm_splits.proofs.pair_rows.PairRows.last_begun.Goals as goal

pub returns-then-count-eq0 : goal.returns-then-count-eq0
returns-then-count-eq0 c = sym (force_none c.args.slot c.args.self.now (subst (IsCount c.args.self.now c.args.slot) c.if-count-eq0.true c.count_begun-count.ensures))

pub returns : goal.returns
returns c =
    let some : 0 < c.count_begun-count.result = omega arith in
    let last = force_last c.args.slot c.args.self.now c.count_begun-count.result some c.count_begun-count.ensures in
    let read = get_or_default c.args.self.now (c.count_begun-count.result - 1) c.index-as_slice-last.result (0, []) (omega (arith, c.count_begun-count.ensures.in_range)) in
    grind (arith, c.self.view_is, c.as_slice.ensures, c.index-as_slice-last.is)
