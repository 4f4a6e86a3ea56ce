use Rattle.ltm_lean_load.specs.Adding.{AddsTo}
use Rattle.ltm_lean_load.specs.Nodes.{links_out, came_out}
use Rattle.ltm_lean_load.proofs.passed.add_entered.Given as goal

abbrev pub invariant-loop-j : goal.invariant-loop-j
invariant-loop-j l = AddsTo (links_out l.outs) (came_out l.outs) l.slot l.j l.initial.entered l.entered
