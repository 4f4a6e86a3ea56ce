use Rattle.std.proofs.Common.{slice_index}
use Rattle.ltm_lean_node.specs.Rows.{WritesAt}
use Rattle.ltm_lean_node.proofs.weights.put_at.Given as goal

abbrev pub invariant-loop-j : goal.invariant-loop-j
invariant-loop-j l = WritesAt l.fn.place l.j (slice_index l.numbers) l.initial.into l.into
