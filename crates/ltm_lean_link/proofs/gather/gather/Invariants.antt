use Rattle.ltm_lean_link.proofs.Summing.{SumsTo}
use Rattle.ltm_lean_link.proofs.gather.gather.Given as goal

abbrev pub invariant-loop-i : goal.invariant-loop-i
invariant-loop-i l = SumsTo l.into l.moved l.places l.all l.i
