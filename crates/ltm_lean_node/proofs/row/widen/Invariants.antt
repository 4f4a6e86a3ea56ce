use Rattle.std.proofs.Common.{◌≡◌, ℕ, ◌<◌, slice_index}
use Rattle.ltm_lean_node.proofs.row.widen.Given as goal

abbrev pub invariant-loop-x : goal.invariant-loop-x
invariant-loop-x l = (i : ℕ) → i < l.x → slice_index l.into i ≡ slice_index l.numbers i
