use Rattle.ltm_lean_load.specs.Adding.{AddsTo}
use Rattle.ltm_lean_load.specs.Nodes.{links_in, gone_in}
use Rattle.ltm_lean_load.proofs.passed.add_left.Given as goal

abbrev pub invariant-loop-i : goal.invariant-loop-i
invariant-loop-i l = AddsTo (links_in l.ins) (gone_in l.ins) l.slot l.i l.initial.left l.left
