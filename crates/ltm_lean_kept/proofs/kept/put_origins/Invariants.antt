use Rattle.ltm_lean_kept.specs.Kept.{PutsOrigins}
use Rattle.ltm_lean_kept.proofs.kept.put_origins.Given as goal

abbrev pub invariant-loop-node : goal.invariant-loop-node
invariant-loop-node l = PutsOrigins l.nodes l.links l.node l.boundary l.fn.curves l.curves
