use Rattle.std.proofs.Common.{length}
use Rattle.ltm_lean_node.proofs.Placing.{Scattered}
use Rattle.ltm_lean_node.proofs.places.scatter.Given as goal

abbrev pub invariant-loop-i : goal.invariant-loop-i
invariant-loop-i l = Scattered l.numbers l.places l.into (length l.fn.into) l.i
