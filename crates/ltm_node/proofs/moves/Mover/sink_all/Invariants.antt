use Rattle.ltm_node.specs.Moving.{IsMovingAt}
use Rattle.ltm_node.proofs.moves.Mover.sink_all.Given as goal

abbrev pub invariant-loop-arm : goal.invariant-loop-arm
invariant-loop-arm g l = IsMovingAt l.self (g.T.Tally.stands l.tally) l.destination l.arm l.row
