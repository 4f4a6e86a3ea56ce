use Rattle.ltm_check.proofs.Copying.{places_stay}
use Rattle.ltm_check.proofs.window.copy_all.Goals as goal

pub copy_groups-requires-clause-places : goal.copy_groups-requires-clause-places
copy_groups-requires-clause-places c = places_stay c.args.curves.now c.args.first c.args.end c.args.counts.now c.loop-part.counts c.loop-part.invariant.0 c.requires.places
