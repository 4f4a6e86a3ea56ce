use Rattle.ltm_lean_node.specs.Rows.{WritesAt}
use Rattle.ltm_lean_node.proofs.weights.put_none_at.Given as goal

abbrev pub invariant-loop-j : goal.invariant-loop-j
invariant-loop-j l = WritesAt l.fn.place l.j (λ j. 0) l.initial.into l.into
