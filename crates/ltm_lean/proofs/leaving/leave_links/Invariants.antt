use Rattle.ltm_lean.proofs.Left.{LeftTo}
use Rattle.ltm_lean.proofs.leaving.leave_links.Given as goal

abbrev pub invariant-loop-i : goal.invariant-loop-i
invariant-loop-i l = LeftTo l.initial.ins l.ins l.outputs l.i
