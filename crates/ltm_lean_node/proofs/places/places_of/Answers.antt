use Rattle.ltm_lean_node.proofs.Placing.{placed_none, placed_more}
use Rattle.ltm_lean_node.proofs.places.places_of.Goals as goal

pub loop-i-init : goal.loop-i-init
loop-i-init c = placed_none c.args.inner.now c.args.outer.now c.new-places.result.items c.new-places.ensures.items

pub loop-i-preserved : goal.loop-i-preserved
loop-i-preserved c =
    placed_more c.args.inner.now c.args.outer.now c.loop-i.places.items c.push.new.self.items c.loop-i.at c.loop-i.i c.seek-at.result c.place_or_end-place.result c.requires.inner c.requires.outer c.loop-i-test.true c.loop-i.invariant
    c.seek-at.ensures.within c.seek-at.ensures.before c.seek-at.ensures.here c.place_or_end-place.ensures.there c.place_or_end-place.ensures.none c.in_ok-push.ensures.items
