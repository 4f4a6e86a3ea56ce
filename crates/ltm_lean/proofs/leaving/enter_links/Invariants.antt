use Rattle.ltm_lean.proofs.Left.{EnteredTo}
use Rattle.ltm_lean.proofs.leaving.enter_links.Given as goal

abbrev pub invariant-loop-j : goal.invariant-loop-j
invariant-loop-j l = EnteredTo l.initial.outs l.outs l.outputs l.j
