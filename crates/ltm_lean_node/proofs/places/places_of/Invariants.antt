use Rattle.ltm_lean_node.proofs.Placing.{PlacedTo}
use Rattle.ltm_lean_node.proofs.places.places_of.Given as goal

abbrev pub invariant-loop-i : goal.invariant-loop-i
invariant-loop-i l = PlacedTo l.inner l.outer l.places.items l.at l.i
