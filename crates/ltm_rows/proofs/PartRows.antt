-- The parts of a pair's inputs that are kept.
use Rattle.std.proofs.Common.{◌≡◌, ℕ, ◌+◌, ◌-◌, ◌*◌, ◌/◌, ◌%◌, ◌^◌, ◌<◌, ◌≤◌, List, ◌++◌, take, drop, length, slice_index, refl, ap, sym, ◌∙◌, arith, inl, inr}
use Rattle.std.specs.Prelude.{slice_range, replicate}
use Rattle.std.proofs.Math.Nat.{div-lt_iff_lt-mul, mod-lt, mul_comm, div-add-mod}
use Rattle.std.proofs.lemmas.Bool.{cases_lt}
use Rattle.std.proofs.lemmas.List.{
  ext_get_or,
  append_assoc,
  get_or-take,
  get_or-drop,
  get_or-replicate,
  length-take,
  length-take-le,
  length-drop,
  length-append,
  length-replicate,
  take_all,
  take-append-drop,
  take-replicate,
  drop-drop,
}
use Rattle.std.proofs.Math.Seq.{take-append_seam, drop-append_seam}
use Rattle.ltm_units.proofs.Sums.{le-sum_below}
use Rattle.ltm_node.specs.Shape.{width, counts_width, counts_begin, supplies_begin, weights_begin}
use Rattle.ltm_node.specs.Inputs.{Inputs, sending}
use Rattle.ltm_node.specs.declared.shape.NodeShape.{NodeShape}
use Rattle.ltm_node.specs.Solvable.{IsSolvable}
use Rattle.ltm_node.specs.Uncounted.{with_no_counts, uncounted}
use Rattle.ltm_rows.specs.declared.parts.Parts.{Parts}
use Rattle.ltm_rows.specs.Parts.{without_counts, AreNarrow}

-- a part of a list and what follows it
pub part_and_rest : (row : List ℕ) (a b : ℕ) → a ≤ b → slice_range row a b ++ drop b row ≡ drop a row
part_and_rest row a b l =
    let at : a + (b - a) ≡ b = omega arith in
    ap (λ (z : List ℕ). slice_range row a b ++ z) (sym (drop-drop (b - a) a row ∙ ap (λ (n : ℕ). drop n row) at)) ∙ take-append-drop (b - a) (drop a row)

pub parts_join : (shape : NodeShape) (row now : List ℕ) (n a b e : ℕ) → now ≡ row → n ≡ counts_begin shape → a ≡ supplies_begin shape → b ≡ weights_begin shape → e ≡ weights_begin shape → weights_begin shape ≤ length row →
    take n now ++ (slice_range now a b ++ slice_range now e (length now)) ≡ without_counts shape row
parts_join shape row now n a b e is at_counts at_supplies at_weights at_end within =
    let last : slice_range row (weights_begin shape) (length row) ≡ drop (weights_begin shape) row =
    take_all (length row - weights_begin shape) (drop (weights_begin shape) row) (omega (arith, length-drop (weights_begin shape) row)) in
    rw (is, at_counts, at_supplies, at_weights, at_end, last) (ap (λ (z : List ℕ). take (counts_begin shape) row ++ z) (part_and_rest row (supplies_begin shape) (weights_begin shape) (omega arith)))

-- a place of a grid with so many columns
some_column : (h w i : ℕ) → i < h * w → 0 < w
some_column h w i l = elim (cases_lt 0 w) [
  | inl some ↦ some
  | inr none ↦ let zero_wide : w ≡ 0 = omega (arith, none) in absurd (omega (arith, l, ap (λ (n : ℕ). h * n) zero_wide))
]

-- ---- what the arms send is within their capacities
sending_narrow : (n : Inputs) (arm d : ℕ) → IsSolvable n → arm < n.shape.arms → d < n.shape.destinations → sending n arm d < 2 ^ 16
sending_narrow n arm d is l m = omega (arith, le-sum_below n.shape.destinations (λ e. sending n arm e) d m, is.within_capacity arm l, is.capacities arm l)

pub sends_narrow : (n : Inputs) (xs : List ℕ) → IsSolvable n → xs ≡ take (counts_begin n.shape) n.row → (i : ℕ) → i < length xs → slice_index xs i < 2 ^ 16
sends_narrow n xs is part i l =
    let w : ℕ = n.shape.destinations in
    let low : i < n.shape.arms * w = omega (arith, l, ap (λ (z : List ℕ). length z) part, length-take (counts_begin n.shape) n.row) in
    let some : 0 < w = some_column n.shape.arms w i low in
    let at : i / w * w + i % w ≡ i = omega (arith, div-add-mod i w, mul_comm w (i / w)) in
    omega (
      arith,
      ap (λ (z : List ℕ). slice_index z i) part,
      get_or-take (counts_begin n.shape) n.row i 0 low,
      ap (slice_index n.row) at,
      sending_narrow n (i / w) (i % w) is ((div-lt_iff_lt-mul some).1 low) (mod-lt i some),
    )

-- ---- supplies and capacities
pub limits_narrow : (n : Inputs) (xs : List ℕ) → IsSolvable n → xs ≡ slice_range n.row (supplies_begin n.shape) (weights_begin n.shape) → (i : ℕ) → i < length xs → slice_index xs i < 2 ^ 16
limits_narrow n xs is part i l =
    let first : ℕ = supplies_begin n.shape in
    let low : i < n.shape.outs + n.shape.arms = omega (arith, l, ap (λ (z : List ℕ). length z) part, length-take (weights_begin n.shape - first) (drop first n.row)) in
    let at : slice_index xs i ≡ slice_index n.row (first + i) =
    ap (λ (z : List ℕ). slice_index z i) part ∙ (get_or-take (weights_begin n.shape - first) (drop first n.row) i 0 (omega arith) ∙ get_or-drop first n.row i 0) in
    elim (cases_lt i n.shape.outs) [
      | inl out ↦ omega (arith, at, is.supplies i out)
      | inr arm ↦
          let behind : first + i ≡ first + n.shape.outs + (i - n.shape.outs) = omega arith in
          omega (arith, at, ap (slice_index n.row) behind, is.capacities (i - n.shape.outs) (omega arith))
    ]

-- ---- weights
weights_narrow : (n : Inputs) (xs : List ℕ) → IsSolvable n → xs ≡ slice_range n.row (weights_begin n.shape) (length n.row) → length n.row ≡ width n.shape → (i : ℕ) → i < length xs → slice_index xs i < 2 ^ 32
weights_narrow n xs is part whole i l =
    let w : ℕ = n.shape.outs in
    let rest : i < length n.row - weights_begin n.shape = omega (arith, l, ap (λ (z : List ℕ). length z) part, length-take (length n.row - weights_begin n.shape) (drop (weights_begin n.shape) n.row)) in
    let low : i < n.shape.destinations * w = omega (arith, rest, whole, mul_comm n.shape.destinations w) in
    let some : 0 < w = some_column n.shape.destinations w i low in
    let at : weights_begin n.shape + i ≡ weights_begin n.shape + i / w * w + i % w = omega (arith, div-add-mod i w, mul_comm w (i / w)) in
    omega (
      arith,
      ap (λ (z : List ℕ). slice_index z i) part,
      get_or-take (length n.row - weights_begin n.shape) (drop (weights_begin n.shape) n.row) i 0 rest,
      get_or-drop (weights_begin n.shape) n.row i 0,
      ap (slice_index n.row) at,
      is.weights (i / w) (i % w) ((div-lt_iff_lt-mul some).1 low) (mod-lt i some),
    )

-- ---- numbers behind zeros
-- a row of zeros is the front of as many
pub zeros_are : (xs : List ℕ) (n : ℕ) → ((i : ℕ) → i < length xs → slice_index xs i ≡ 0) → length xs ≤ n → take (length xs) (replicate n 0) ≡ xs
zeros_are xs n none l =
    take-replicate (length xs) n 0 l
    ∙ ext_get_or 0 (replicate (length xs) 0) xs (length-replicate {A = ℕ} (length xs) 0) (λ i below.
    let low : i < length xs = omega (arith, below, length-replicate {A = ℕ} (length xs) 0) in get_or-replicate {A = ℕ} (length xs) i 0 0 low ∙ sym (none i low))

-- ---- rows of which the counts are not told
-- a row is as long as another, and the same but for the counts
record IsSameBut (shape : NodeShape) (row other : List ℕ) : Type 0 where
  long : length other ≡ length row
  before : take (counts_begin shape) other ≡ take (counts_begin shape) row
  behind : drop (supplies_begin shape) other ≡ drop (supplies_begin shape) row

-- so it is with 0 for each count
same_but_counts : (shape : NodeShape) (row : List ℕ) → length row ≡ width shape → IsSameBut shape row (with_no_counts shape row)
unfolding with_no_counts
same_but_counts shape row whole =
    let front : List ℕ = take (counts_begin shape) row in
    let zeros : List ℕ = replicate (counts_width shape) 0 in
    let back : List ℕ = drop (supplies_begin shape) row in
    let first : length front ≡ counts_begin shape = length-take-le (counts_begin shape) row (omega (arith, whole)) in
    let many : length zeros ≡ counts_width shape = length-replicate {A = ℕ} (counts_width shape) 0 in
    let next : length (front ++ zeros) ≡ supplies_begin shape = omega (arith, length-append front zeros, first, many) in
    record {
      long = omega (arith, length-append front (zeros ++ back), length-append zeros back, first, many, length-drop (supplies_begin shape) row, whole);
      before = ap (λ (n : ℕ). take n (front ++ (zeros ++ back))) (sym first) ∙ take-append_seam front (zeros ++ back);
      behind = ap (λ (n : ℕ). drop n (front ++ (zeros ++ back))) (sym next) ∙ (ap (drop (length (front ++ zeros))) (sym (append_assoc front zeros back)) ∙ drop-append_seam (front ++ zeros) back);
    }

drop_further : (shape : NodeShape) (row other : List ℕ) → drop (supplies_begin shape) other ≡ drop (supplies_begin shape) row → drop (weights_begin shape) other ≡ drop (weights_begin shape) row
drop_further shape row other same =
    let further : ℕ = weights_begin shape - supplies_begin shape in
    let at : supplies_begin shape + further ≡ weights_begin shape = omega arith in
    let from : (xs : List ℕ) → drop further (drop (supplies_begin shape) xs) ≡ drop (weights_begin shape) xs = λ xs. drop-drop further (supplies_begin shape) xs ∙ ap (λ (n : ℕ). drop n xs) at in
    sym (from other) ∙ (ap (drop further) same ∙ from row)

-- the parts that are kept are narrow where the inputs may be solved
pub are_narrow : (n : Inputs) (p : Parts) → IsSolvable n → length n.row ≡ width n.shape → p.sends.now ≡ take (counts_begin n.shape) n.row → p.limits.now ≡ slice_range n.row (supplies_begin n.shape) (weights_begin n.shape) →
    p.weights.now ≡ slice_range n.row (weights_begin n.shape) (length n.row) → AreNarrow p
are_narrow n p is whole first second third = record {
  sends = λ i l. sends_narrow n p.sends.now is first i l;
  limits = λ i l. limits_narrow n p.limits.now is second i l;
  weights = λ i l. weights_narrow n p.weights.now is third whole i l;
}

-- and where they may be with 0 for each count
pub are_narrow_uncounted : (n : Inputs) (p : Parts) → IsSolvable (uncounted n) → length n.row ≡ width n.shape → p.sends.now ≡ take (counts_begin n.shape) n.row →
    p.limits.now ≡ slice_range n.row (supplies_begin n.shape) (weights_begin n.shape) → p.weights.now ≡ slice_range n.row (weights_begin n.shape) (length n.row) → AreNarrow p
are_narrow_uncounted n p is whole first second third =
    let same : IsSameBut n.shape n.row (uncounted n).row = same_but_counts n.shape n.row whole in
    let last : drop (weights_begin n.shape) (uncounted n).row ≡ drop (weights_begin n.shape) n.row = drop_further n.shape n.row (uncounted n).row same.behind in
    are_narrow (uncounted n) p is (same.long ∙ whole) (first ∙ sym same.before)
    (second ∙ ap (take (weights_begin n.shape - supplies_begin n.shape)) (sym same.behind))
    (third ∙ rw (same.long, last) refl)
