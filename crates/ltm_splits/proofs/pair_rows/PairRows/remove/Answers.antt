use Rattle.std.proofs.Common.{sym, ap}
use Rattle.std.specs.Option.{is_some}
use Rattle.ltm_splits.proofs.Place.{lookup_at, lookup_gap, rising_remove, take_at, take_gap}
use Rattle.ltm_splits.proofs.pair_rows.PairRows.remove.Goals as goal

pub returns-in-Ok-clause-stood : goal.returns-in-Ok-clause-stood
returns-in-Ok-clause-stood c = sym (ap is_some (lookup_at c.args.self.now c.in-Ok.ensures.rising c.args.from c.in-Ok.place c.in-Ok.ensures.found))

pub returns-in-Ok-clause-rows : goal.returns-in-Ok-clause-rows
returns-in-Ok-clause-rows c = rw (c.remove.ensures, c.self.view_is) (take_at c.args.self.now c.in-Ok.ensures.rising c.args.from c.in-Ok.place c.in-Ok.ensures.found)

pub returns-in-Err-clause-stood : goal.returns-in-Err-clause-stood
returns-in-Err-clause-stood c = sym (ap is_some (lookup_gap c.args.from c.args.self.now _ c.in-Err.ensures.gap))

pub returns-in-Err-clause-rows : goal.returns-in-Err-clause-rows
returns-in-Err-clause-rows c = sym (take_gap c.args.from c.args.self.now _ c.in-Err.ensures.gap)

pub invariant_of-self : goal.invariant_of-self
invariant_of-self c = rw c.remove.ensures (rising_remove _ c.self.invariant c.args.from c.in-Ok.place (rw c.self.view_is c.in-Ok.ensures.found.in_range))
