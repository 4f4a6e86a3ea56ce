use Rattle.ltm_lean.proofs.Rested.{RestTo}
use Rattle.ltm_lean.proofs.resting.rest_ins.Given as goal

abbrev pub invariant-loop-i : goal.invariant-loop-i
invariant-loop-i l = RestTo l.initial.ins l.ins l.i
