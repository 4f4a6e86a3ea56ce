use Rattle.ltm_lean.proofs.Rested.{RestOuts}
use Rattle.ltm_lean.proofs.resting.rest_outs.Given as goal

abbrev pub invariant-loop-j : goal.invariant-loop-j
invariant-loop-j l = RestOuts l.initial.outs l.outs l.j
