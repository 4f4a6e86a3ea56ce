use Rattle.ltm_check.proofs.Copying.{places_stay}
use Rattle.ltm_check.proofs.window.copy_group.Goals as goal

pub copy_stretch-requires-clause-places : goal.copy_stretch-requires-clause-places
copy_stretch-requires-clause-places c = places_stay c.args.curves.now c.args.first _ c.args.counts.now c.loop-destination.counts c.loop-destination.invariant.0.long c.requires.places
