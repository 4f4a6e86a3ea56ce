use Rattle.std.proofs.Common.{◌≡◌, ℕ, ◌<◌, ◌≤◌, ◌⊎◌, length, slice_index}
use Rattle.ltm_marks.proofs.marks.clear_words.Given as goal

abbrev pub invariant-loop-at : goal.invariant-loop-at
invariant-loop-at l =
    (length l.bits.items ≡ length l.fn.bits.items) × (((i : ℕ) → l.from ≤ i → i < l.at → slice_index l.bits.items i ≡ 0)
    × ((i : ℕ) → (i < l.from) ⊎ (l.at ≤ i) → slice_index l.bits.items i ≡ slice_index l.fn.bits.items i))
