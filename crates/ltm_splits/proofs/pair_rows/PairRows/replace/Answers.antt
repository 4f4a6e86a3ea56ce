use Rattle.std.proofs.Common.{sym, ap}
use Rattle.std.specs.Option.{is_some}
use Rattle.ltm_splits.proofs.Place.{lookup_at, lookup_gap, put_at}
use Rattle.ltm_splits.proofs.pair_rows.PairRows.replace.Goals as goal

pub returns-in-Ok-clause-stood : goal.returns-in-Ok-clause-stood
returns-in-Ok-clause-stood c = sym (ap is_some (lookup_at c.args.self.now c.in-Ok.ensures.rising c.args.from c.in-Ok.place c.in-Ok.ensures.found))

pub returns-in-Ok-clause-rows : goal.returns-in-Ok-clause-rows
returns-in-Ok-clause-rows c = rw (c.replace.ensures, c.self.view_is) (put_at c.args.self.now c.in-Ok.ensures.rising c.args.from c.args.weights c.in-Ok.place c.in-Ok.ensures.found)

pub returns-in-Err-clause-stood : goal.returns-in-Err-clause-stood
returns-in-Err-clause-stood c = sym (ap is_some (lookup_gap c.args.from c.args.self.now _ c.in-Err.ensures.gap))
