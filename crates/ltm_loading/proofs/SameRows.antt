-- A row is known by its numbers.
use Rattle.std.proofs.Common.{◌≡◌, ℕ, ◌+◌, ◌-◌, ◌*◌, ◌/◌, ◌%◌, ◌<◌, ◌≤◌, List, ◌++◌, length, length-append, slice_index, arith, inl, inr, ap, sym, ◌∙◌, subst}
use Rattle.std.proofs.Math.Nat.{mul-le-mul_left}
use Rattle.std.proofs.lemmas.Bool.{cases_lt}
use Rattle.std.proofs.lemmas.List.{ext_get_or}
use Rattle.std.proofs.lemmas.Nat.{div_below, mod_below, div-add-mod'}
use Rattle.ltm_curve.specs.Counts.{Counts}
use Rattle.ltm_curve.specs.First.{list_below}
use Rattle.ltm_curve.proofs.Lists.{length-list_below}
use Rattle.ltm_node.specs.declared.shape.NodeShape.{NodeShape}
use Rattle.ltm_node.specs.Shape.{width, counts_width}
use Rattle.ltm_node.specs.Inputs.{Inputs}
use Rattle.ltm_node.specs.Outputs.{Outputs}
use Rattle.ltm_loading.specs.Setting.{Setting}
use Rattle.ltm_loading.specs.Groups.{up_of}
use Rattle.ltm_loading.specs.Flows.{receiving}
use Rattle.ltm_loading.specs.Pairs.{arms_of, shape_at, sending, arm_group, arm_capacity, arrived_by, grid, pair_row, pair_inputs, count_row, pair_outputs}
use Rattle.ltm_loading.specs.NextPair.{IsPairInputs}
use Rattle.ltm_loading.specs.ByPlace.{HoldsInputs, HoldsCounts, InputsByPlace, CountsByPlace}
use Rattle.ltm_loading.proofs.Rows.{HasParts, HasCounts, pair_parts, next_counts, length-grid}

-- a place of a table is that of a row and a column
pub record IsPlace (h w k : ℕ) : Type 0 where
  pub row : ℕ
  pub column : ℕ
  pub row_below : row < h
  pub column_below : column < w
  pub at : row * w + column ≡ k

pub place_of : (h w k : ℕ) → k < h * w → IsPlace h w k
place_of h w k l =
    let some : 0 < w = elim (cases_lt 0 w) [ inl some ↦ some | inr none ↦ absurd (omega (arith, mul-le-mul_left h none)) ] in
    record {
      row = k / w;
      column = k % w;
      row_below = div_below k w h some l;
      column_below = mod_below k w some;
      at = div-add-mod' k w;
    }

-- what two rows have in a part that lies from a place on
part_same : (xs ys : List ℕ) (from h w k : ℕ) → ((i d : ℕ) → i < h → d < w → slice_index xs (from + (i * w + d)) ≡ slice_index ys (from + (i * w + d))) → from ≤ k → k < from + h * w → slice_index xs k ≡ slice_index ys k
part_same xs ys from h w k same low high =
    let at : IsPlace h w (k - from) = place_of h w (k - from) (omega arith) in
    let e : from + (at.row * w + at.column) ≡ k = omega (arith, at.at) in
    subst (λ (z : ℕ). slice_index xs z ≡ slice_index ys z) e (same at.row at.column at.row_below at.column_below)

list_same : (xs ys : List ℕ) (from n k : ℕ) → ((i : ℕ) → i < n → slice_index xs (from + i) ≡ slice_index ys (from + i)) → from ≤ k → k < from + n → slice_index xs k ≡ slice_index ys k
list_same xs ys from n k same low high =
    let e : from + (k - from) ≡ k = omega arith in subst (λ (z : ℕ). slice_index xs z ≡ slice_index ys z) e (same (k - from) (omega arith))

-- two rows with the same parts are one
pub same_parts : (xs ys : List ℕ) (a o m : ℕ) (send gone enter : ℕ → ℕ → ℕ) (come : ℕ) (get cap : ℕ → ℕ) (weigh : ℕ → ℕ → ℕ) →
    HasParts xs a o m send gone enter come get cap weigh → HasParts ys a o m send gone enter come get cap weigh →
    length xs ≡ 2 * (a * m) + o * m + 1 + o + a + m * o → length ys ≡ length xs → xs ≡ ys
same_parts xs ys a o m send gone enter come get cap weigh p q long same_long =
    ext_get_or 0 xs ys (sym same_long) (λ k l. elim (cases_lt k (a * m)) [
      | inl in1 ↦ part_same xs ys 0 a m k (λ i d x y. let e : i * m + d ≡ 0 + (i * m + d) = omega arith in
          subst (λ (w : ℕ). slice_index xs w ≡ slice_index ys w) e (p.sending i d x y ∙ sym (q.sending i d x y))) (omega arith) (omega arith)
      | inr past1 ↦ elim (cases_lt k (2 * (a * m))) [
        | inl in2 ↦ part_same xs ys (a * m) a m k (λ i d x y. p.left i d x y ∙ sym (q.left i d x y)) past1 (omega arith)
        | inr past2 ↦ elim (cases_lt k (2 * (a * m) + o * m)) [
          | inl in3 ↦ part_same xs ys (2 * (a * m)) o m k (λ i d x y. p.entered i d x y ∙ sym (q.entered i d x y)) past2 in3
          | inr past3 ↦ elim (cases_lt k (2 * (a * m) + o * m + 1)) [
            | inl in4 ↦ list_same xs ys (2 * (a * m) + o * m) 1 k (λ i x. let z : i ≡ 0 = omega arith in
                let e : 2 * (a * m) + o * m ≡ 2 * (a * m) + o * m + i = omega arith in
                subst (λ (w : ℕ). slice_index xs w ≡ slice_index ys w) e (p.arrived ∙ sym q.arrived)) past3 (omega arith)
            | inr past4 ↦ elim (cases_lt k (2 * (a * m) + o * m + 1 + o)) [
              | inl in5 ↦ list_same xs ys (2 * (a * m) + o * m + 1) o k (λ i x. p.supply i x ∙ sym (q.supply i x)) past4 in5
              | inr past5 ↦ elim (cases_lt k (2 * (a * m) + o * m + 1 + o + a)) [
                | inl in6 ↦ list_same xs ys (2 * (a * m) + o * m + 1 + o) a k (λ i x. p.capacity i x ∙ sym (q.capacity i x)) past5 in6
                | inr past6 ↦ part_same xs ys (2 * (a * m) + o * m + 1 + o + a) m o k (λ d j x y. let e : 2 * (a * m) + o * m + 1 + o + a + d * o + j ≡ 2 * (a * m) + o * m + 1 + o + a + (d * o + j) = omega arith in
                    subst (λ (w : ℕ). slice_index xs w ≡ slice_index ys w) e (p.weight d j x y ∙ sym (q.weight d j x y))) past6 (omega arith)
              ]
            ]
          ]
        ]
      ]
    ])

-- two rows with the same counts are one
pub same_counts : (xs ys : List ℕ) (a o m : ℕ) (gone enter : ℕ → ℕ → ℕ) (come : ℕ) → HasCounts xs a o m gone enter come → HasCounts ys a o m gone enter come →
    length xs ≡ a * m + o * m + 1 → length ys ≡ length xs → xs ≡ ys
same_counts xs ys a o m gone enter come p q long same_long =
    ext_get_or 0 xs ys (sym same_long) (λ k l. elim (cases_lt k (a * m)) [
      | inl in1 ↦ part_same xs ys 0 a m k (λ i d x y. let e : i * m + d ≡ 0 + (i * m + d) = omega arith in
          subst (λ (w : ℕ). slice_index xs w ≡ slice_index ys w) e (p.left i d x y ∙ sym (q.left i d x y))) (omega arith) (omega arith)
      | inr past1 ↦ elim (cases_lt k (a * m + o * m)) [
        | inl in2 ↦ part_same xs ys (a * m) o m k (λ j d x y. p.entered j d x y ∙ sym (q.entered j d x y)) past1 in2
        | inr past2 ↦ let e : a * m + o * m ≡ k = omega arith in subst (λ (w : ℕ). slice_index xs w ≡ slice_index ys w) e (p.arrived ∙ sym q.arrived)
      ]
    ])

pub length-pair_row : (s : Setting) (c : Counts) (u t : ℕ) → length (pair_row s c u t) ≡ 2 * (arms_of s u * s.destinations) + s.outs u * s.destinations + 1 + s.outs u + arms_of s u + s.destinations * s.outs u
length-pair_row s c u t =
    let p1 : List ℕ = grid (arms_of s u) s.destinations (sending s c u t) in
    let p2 : List ℕ = grid (arms_of s u) s.destinations (λ i d. c (arm_group s u i) d t) in
    let p3 : List ℕ = grid (s.outs u) s.destinations (λ j d. c (up_of (s.out_link u j)) d t) in
    let p4 : List ℕ = list_below 1 (λ k. arrived_by s c (s.own u) t) in
    let p5 : List ℕ = list_below (s.outs u) (λ j. receiving s c (s.out_link u j) t) in
    let p6 : List ℕ = list_below (arms_of s u) (arm_capacity s u t) in
    let p7 : List ℕ = grid s.destinations (s.outs u) (λ d j. s.weight u d t j) in
    omega (
      arith,
      length-append p1 (p2 ++ (p3 ++ (p4 ++ (p5 ++ (p6 ++ p7))))),
      length-append p2 (p3 ++ (p4 ++ (p5 ++ (p6 ++ p7)))),
      length-append p3 (p4 ++ (p5 ++ (p6 ++ p7))),
      length-append p4 (p5 ++ (p6 ++ p7)),
      length-append p5 (p6 ++ p7),
      length-append p6 p7,
      length-grid (arms_of s u) s.destinations (sending s c u t),
      length-grid (arms_of s u) s.destinations (λ i d. c (arm_group s u i) d t),
      length-grid (s.outs u) s.destinations (λ j d. c (up_of (s.out_link u j)) d t),
      length-list_below 1 (λ k. arrived_by s c (s.own u) t),
      length-list_below (s.outs u) (λ j. receiving s c (s.out_link u j) t),
      length-list_below (arms_of s u) (arm_capacity s u t),
      length-grid s.destinations (s.outs u) (λ d j. s.weight u d t j),
    )

length-count_row : (s : Setting) (c : Counts) (u k : ℕ) → length (count_row s c u k) ≡ arms_of s u * s.destinations + s.outs u * s.destinations + 1
length-count_row s c u k =
    let p1 : List ℕ = grid (arms_of s u) s.destinations (λ i d. c (arm_group s u i) d k) in
    let p2 : List ℕ = grid (s.outs u) s.destinations (λ j d. c (up_of (s.out_link u j)) d k) in
    let p3 : List ℕ = list_below 1 (λ i. arrived_by s c (s.own u) k) in
    omega (
      arith,
      length-append p1 (p2 ++ p3),
      length-append p2 p3,
      length-grid (arms_of s u) s.destinations (λ i d. c (arm_group s u i) d k),
      length-grid (s.outs u) s.destinations (λ j d. c (up_of (s.out_link u j)) d k),
      length-list_below 1 (λ i. arrived_by s c (s.own u) k),
    )

holds_inputs : (s : Setting) (c : Counts) (u t : ℕ) → HoldsInputs s c u t (pair_inputs s c u t)
holds_inputs s c u t =
    let h = pair_parts s c u t in
    record { sending = h.sending; left = h.left; entered = h.entered; arrived = h.arrived; supply = h.supply; capacity = h.capacity; weight = h.weight }

-- numbers at the places of a shape
inputs_parts : (s : Setting) (c : Counts) (u t : ℕ) (n : Inputs) → n.shape ≡ shape_at s u → HoldsInputs s c u t n →
    (let m : Inputs = record { shape = shape_at s u; row = n.row; room = n.room } in HoldsInputs s c u t m)
inputs_parts s c u t n e h =
    subst (λ (z : NodeShape). HoldsInputs s c u t (record { shape = z; row = n.row; room = n.room })) e h

is_pair_inputs : (s : Setting) (c : Counts) (u t : ℕ) (n : Inputs) → n.shape ≡ shape_at s u → length n.row ≡ width n.shape → HoldsInputs s c u t n → IsPairInputs s c u t n
is_pair_inputs s c u t n e long h =
    let w : length n.row ≡ width (shape_at s u) = long ∙ ap width e in
    let g : HoldsInputs s c u t (record { shape = shape_at s u; row = n.row; room = n.room }) = inputs_parts s c u t n e h in
    let parts : HasParts n.row (arms_of s u) (s.outs u) s.destinations (sending s c u t) (λ i d. c (arm_group s u i) d t) (λ j d. c (up_of (s.out_link u j)) d t) (arrived_by s c (s.own u) t) (λ j. receiving s c (s.out_link u j) t) (arm_capacity s u t) (λ d j. s.weight u d t j) =
    record { sending = g.sending; left = g.left; entered = g.entered; arrived = g.arrived; supply = g.supply; capacity = g.capacity; weight = g.weight } in
    record {
      shape = e;
      row =
          same_parts n.row (pair_row s c u t) (arms_of s u) (s.outs u) s.destinations (sending s c u t) (λ i d. c (arm_group s u i) d t) (λ j d. c (up_of (s.out_link u j)) d t) (arrived_by s c (s.own u) t)
          (λ j. receiving s c (s.out_link u j) t) (arm_capacity s u t) (λ d j. s.weight u d t j) parts (pair_parts s c u t) (omega arith) (omega (arith, length-pair_row s c u t));
    }

pub inputs_by_place_holds : InputsByPlace
inputs_by_place_holds s c u t = (holds_inputs s c u t, λ n e long h. is_pair_inputs s c u t n e long h)

holds_counts : (s : Setting) (c : Counts) (u k : ℕ) → HoldsCounts s c u k (pair_outputs s c u k)
holds_counts s c u k = let h = next_counts s c u k in record { left = h.left; entered = h.entered; arrived = h.arrived }

is_count_row : (s : Setting) (c : Counts) (u k : ℕ) (o : Outputs) → o.shape ≡ shape_at s u → length o.row ≡ counts_width o.shape → HoldsCounts s c u k o → count_row s c u k ≡ o.row
is_count_row s c u k o e long h =
    let w : length o.row ≡ counts_width (shape_at s u) = long ∙ ap counts_width e in
    let g : HoldsCounts s c u k (record { shape = shape_at s u; row = o.row; room = o.room }) = subst (λ (z : NodeShape). HoldsCounts s c u k (record { shape = z; row = o.row; room = o.room })) e h in
    let parts : HasCounts o.row (arms_of s u) (s.outs u) s.destinations (λ i d. c (arm_group s u i) d k) (λ j d. c (up_of (s.out_link u j)) d k) (arrived_by s c (s.own u) k) =
    record { left = g.left; entered = g.entered; arrived = g.arrived } in
    same_counts (count_row s c u k) o.row (arms_of s u) (s.outs u) s.destinations (λ i d. c (arm_group s u i) d k) (λ j d. c (up_of (s.out_link u j)) d k) (arrived_by s c (s.own u) k)
    (next_counts s c u k) parts (length-count_row s c u k) (omega (arith, length-count_row s c u k))

pub counts_by_place_holds : CountsByPlace
counts_by_place_holds s c u k = (holds_counts s c u k, λ o e long h. is_count_row s c u k o e long h)
