use Rattle.std.proofs.Common.{◌+◌, arith}
use Rattle.ltm_check.proofs.Copying.{places_stay, fewer_places}
use Rattle.ltm_check.proofs.window.copy_groups.Goals as goal

pub copy_group-requires-clause-places : goal.copy_group-requires-clause-places
copy_group-requires-clause-places c =
    places_stay c.args.curves.now c.args.first _ c.args.counts.now c.loop-group.counts c.loop-group.invariant.0.long
    (fewer_places c.args.curves.now c.args.first c.args.end (c.loop-group.group + 1) _ (omega (arith, c.loop-group-test.true)) c.requires.places)
