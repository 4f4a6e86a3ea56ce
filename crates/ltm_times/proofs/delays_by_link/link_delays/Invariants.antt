use Rattle.ltm_times.specs.DelaysBy.{AreLinkDelaysIn}
use Rattle.ltm_times.proofs.delays_by_link.link_delays.Given as goal

abbrev pub invariant-loop-slot : goal.invariant-loop-slot
invariant-loop-slot l = AreLinkDelaysIn l.loading l.slot l.delays.items
