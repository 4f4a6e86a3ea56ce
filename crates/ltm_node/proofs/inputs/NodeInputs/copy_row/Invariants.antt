use Rattle.std.proofs.Common.{◌≡◌, ◌<◌, ℕ, slice_index, length}
use Rattle.ltm_node.proofs.inputs.NodeInputs.copy_row.Given as goal

abbrev pub invariant-loop-place : goal.invariant-loop-place
invariant-loop-place l = record {
  room : length l.self-inside.numbers.items ≡ length l.initial.self-inside.numbers.items;
  copied : (k : ℕ) → k < l.place → slice_index l.self-inside.numbers.items k ≡ slice_index l.row k;
}
