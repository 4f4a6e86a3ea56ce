use Rattle.ltm_node.specs.Moving.{HaveMovedTo}
use Rattle.ltm_node.proofs.moves.Mover.move_some.Given as goal

abbrev pub invariant-loop-destination : goal.invariant-loop-destination
invariant-loop-destination g l = HaveMovedTo l.self (g.T.Tally.stands l.tally) l.destination l.row
