use Rattle.ltm_gap.specs.Parts.{BothBelow}
use Rattle.ltm_gap.proofs.parts.add_sums.Given as goal

abbrev pub invariant-loop-destination : goal.invariant-loop-destination
invariant-loop-destination l = BothBelow l.destination l.fn.sums.items l.more l.sums.items
