-- Four numbers side by side, laid over one another.
use Rattle.std.proofs.Common.{◌≡◌, ℕ, ◌+◌, ◌-◌, ◌<◌, ◌≤◌, List, take, drop, slice_index, bit_or, arith, ◌∙◌}
use Rattle.std.proofs.lemmas.List.{get_or-take, get_or-drop}
use Rattle.std.proofs.lemmas.Nat.{le_or_l, le_or_r}
use Rattle.ltm_node.proofs.Totals.{of_four}

-- the four from a place on
abbrev pub four_from : List ℕ → ℕ → List ℕ
four_from xs p = take (p + 4 - p) (drop p xs)

over : List ℕ → ℕ
over ys = bit_or (bit_or (slice_index ys 0) (slice_index ys 1)) (bit_or (slice_index ys 2) (slice_index ys 3))

within : (ys : List ℕ) (k : ℕ) → k < 4 → slice_index ys k ≤ over ys
unfolding over
within ys k l =
    let P : ℕ → Type 0 = λ j. slice_index ys j ≤ over ys in
    let a : ℕ = slice_index ys 0 in
    let b : ℕ = slice_index ys 1 in
    let c : ℕ = slice_index ys 2 in
    let d : ℕ = slice_index ys 3 in
    of_four P
    (omega (arith, le_or_l a b, le_or_l (bit_or a b) (bit_or c d)))
    (omega (arith, le_or_r a b, le_or_l (bit_or a b) (bit_or c d)))
    (omega (arith, le_or_l c d, le_or_r (bit_or a b) (bit_or c d)))
    (omega (arith, le_or_r c d, le_or_r (bit_or a b) (bit_or c d)))
    k l

-- each of them is at most that
pub four_within : (xs : List ℕ) (p k : ℕ) → k < 4 →
    slice_index xs (p + k)
    ≤ bit_or (bit_or (slice_index (four_from xs p) 0) (slice_index (four_from xs p) 1)) (bit_or (slice_index (four_from xs p) 2) (slice_index (four_from xs p) 3))
unfolding over
four_within xs p k l =
    let at : slice_index (four_from xs p) k ≡ slice_index xs (p + k) = get_or-take (p + 4 - p) (drop p xs) k 0 (omega arith) ∙ get_or-drop p xs k 0 in
    omega (arith, at, within (four_from xs p) k l)
