-- What is kept of a pair, without the counts of its node and with them.
use Rattle.std.proofs.Common.{◌≡◌, ◌≢◌, ℕ, ◌+◌, ◌<◌, ◌≤◌, ◌==◌, ◌||◌, not, List, ◌++◌, length, take, drop, replicate, Bool, true, false, refl, ap, sym, ◌∙◌, subst, arith, inl, inr}
use Rattle.std.specs.Prelude.{Option, Some, None, option_map, slice_range}
use Rattle.std.proofs.Math.Nat.{mul_comm}
use Rattle.std.proofs.Math.Seq.{take-append_seam, drop-append_seam}
use Rattle.std.proofs.lemmas.Bool.{cases_eq, cases_Bool}
use Rattle.std.proofs.lemmas.List.{append_assoc, length-append, length-take, length-take-le, length-drop, length-replicate, take-append-drop}
use Rattle.ltm_curve.specs.Counts.{Counts}
use Rattle.ltm_curve.specs.First.{list_below}
use Rattle.ltm_curve.specs.Table.{counts_of}
use Rattle.ltm_curve.proofs.Lists.{length-list_below}
use Rattle.ltm_node.specs.Shape.{width, counts_begin, supplies_begin, weights_begin, counts_width}
use Rattle.ltm_node.specs.declared.shape.NodeShape.{NodeShape}
use Rattle.ltm_node.specs.Inputs.{Inputs}
use Rattle.ltm_node.specs.Uncounted.{with_no_counts, uncounted}
use Rattle.ltm_node.specs.Outputs.{Outputs, left_after, entered_after, arrived_after}
use Rattle.ltm_loading.specs.Setting.{Setting}
use Rattle.ltm_loading.specs.Groups.{up_of, arr_of}
use Rattle.ltm_loading.specs.Flows.{receiving}
use Rattle.ltm_loading.specs.Pairs.{arms_of, arm_group, arm_capacity, arrived_by, grid, sending, shape_at, pair_row, count_row}
use Rattle.ltm_loading.specs.NextPair.{IsOf, IsPairInputs}
use Rattle.ltm_loading.specs.Uncounted.{uncounted_row, IsUncountedPair}
use Rattle.ltm_loading.specs.ByPlace.{HoldsCounts, CountsByPlace}
use Rattle.ltm_loading.proofs.Rows.{length-grid}
use Rattle.ltm_loading.proofs.SameRows.{length-pair_row}
use Rattle.ltm_loading.proofs.Setters.{counts_set_only_holds, of_group}
use Rattle.ltm_loading.proofs.Same.{pair_row_same}
use Rattle.ltm_loading.proofs.OneSetter.{set_by_one_pair_holds}
use Rattle.ltm_inputs.specs.Parts.{supply_part, capacity_part, weights_part}
use Rattle.ltm_inputs.proofs.Told.{parts_written, uncounted_from}
use Rattle.ltm_inputs.proofs.Weighing.{limits_written}
use Rattle.ltm_pairs.specs.Changes.{some_below}
use Rattle.ltm_rows.specs.declared.rows.KeptRows.{KeptRows}
use Rattle.ltm_working.specs.declared.table.Table.{Table}
use Rattle.ltm_rows.specs.Rows.{nodes_kept, slots_kept, amounts_of, weights_of, row_of, has_row, kept_row, SamePlaces, ForgetsRow, HasRows}
use Rattle.ltm_rows.specs.Parts.{without_counts}
use Rattle.ltm_working.specs.Desks.{row_without_counts, with_node_counts, kept_of}
use Rattle.ltm_working.specs.Waking.{arm_differs, out_differs, sink_differs, any_differs, ForgetsIf}
use Rattle.ltm_working.proofs.Bools.{none_below, one_below, differ, do_not_differ}
use Rattle.ltm_rows.proofs.KeptPlaces.{is_same_places, rows_lie, length_row, some_kept, none_kept}
use Rattle.ltm_working.proofs.Reading.{SetsOutputs}

-- ---- a row without its middle, and with it
around : (n m : ℕ) (a c b : List ℕ) → length a ≡ n → n + length c ≡ m → take n (a ++ (c ++ b)) ++ drop m (a ++ (c ++ b)) ≡ a ++ b
around n m a c b front middle =
    let first : take n (a ++ (c ++ b)) ≡ a = ap (λ (k : ℕ). take k (a ++ (c ++ b))) (sym front) ∙ take-append_seam a (c ++ b) in
    let at : m ≡ length (a ++ c) = omega (arith, front, middle, length-append a c) in
    let last : drop m (a ++ (c ++ b)) ≡ b = ap (λ (xs : List ℕ). drop m xs) (sym (append_assoc a c b)) ∙ (ap (λ (k : ℕ). drop k ((a ++ c) ++ b)) at ∙ drop-append_seam (a ++ c) b) in
    rw (first, last) refl

between : (n : ℕ) (a c b : List ℕ) → length a ≡ n → take n (a ++ b) ++ (c ++ drop n (a ++ b)) ≡ a ++ (c ++ b)
between n a c b front =
    let first : take n (a ++ b) ≡ a = ap (λ (k : ℕ). take k (a ++ b)) (sym front) ∙ take-append_seam a b in
    let last : drop n (a ++ b) ≡ b = ap (λ (k : ℕ). drop k (a ++ b)) (sym front) ∙ drop-append_seam a b in
    rw (first, last) refl

-- ---- the counts of a node, or zeros, stand in what it reads, after what its arms send
abbrev blocks : Setting → ℕ → (ℕ → ℕ → ℕ) → (ℕ → ℕ → ℕ) → (ℕ → ℕ) → List ℕ
blocks s u left entered arrived = grid (arms_of s u) s.destinations left ++ (grid (s.outs u) s.destinations entered ++ list_below 1 arrived)

length-blocks : (s : Setting) (u : ℕ) (left entered : ℕ → ℕ → ℕ) (arrived : ℕ → ℕ) → length (blocks s u left entered arrived) ≡ counts_width (shape_at s u)
length-blocks s u left entered arrived =
    omega (
      length-append (grid (arms_of s u) s.destinations left) (grid (s.outs u) s.destinations entered ++ list_below 1 arrived),
      length-append (grid (s.outs u) s.destinations entered) (list_below 1 arrived),
      length-grid (arms_of s u) s.destinations left,
      length-grid (s.outs u) s.destinations entered,
      length-list_below 1 arrived,
      arith,
    )

length-counts : (s : Setting) (c : Counts) (u t : ℕ) → length (count_row s c u t) ≡ counts_width (shape_at s u)
length-counts s c u t = length-blocks s u (λ i d. c (arm_group s u i) d t) (λ j d. c (up_of (s.out_link u j)) d t) (λ k. arrived_by s c (s.own u) t)

-- what stands before them and what behind
abbrev sends_of : Setting → Counts → ℕ → ℕ → List ℕ
sends_of s c u t = grid (arms_of s u) s.destinations (sending s c u t)

abbrev limits_of : Setting → Counts → ℕ → ℕ → List ℕ
limits_of s c u t = list_below (s.outs u) (λ j. receiving s c (s.out_link u j) t) ++ (list_below (arms_of s u) (arm_capacity s u t) ++ grid s.destinations (s.outs u) (λ d j. s.weight u d t j))

joined : (a l e r b : List ℕ) → a ++ (l ++ (e ++ (r ++ b))) ≡ a ++ ((l ++ (e ++ r)) ++ b)
joined a l e r b = sym (ap (λ z. a ++ z) (append_assoc l (e ++ r) b ∙ ap (λ z. l ++ z) (append_assoc e r b)))

in_row : (s : Setting) (c : Counts) (u t : ℕ) (left entered : ℕ → ℕ → ℕ) (arrived : ℕ → ℕ) →
    sends_of s c u t ++ (grid (arms_of s u) s.destinations left ++ (grid (s.outs u) s.destinations entered ++ (list_below 1 arrived ++ limits_of s c u t)))
    ≡ sends_of s c u t ++ (blocks s u left entered arrived ++ limits_of s c u t)
in_row s c u t left entered arrived =
    joined (sends_of s c u t) (grid (arms_of s u) s.destinations left) (grid (s.outs u) s.destinations entered) (list_below 1 arrived) (limits_of s c u t)

without : (s : Setting) (c : Counts) (u t : ℕ) (left entered : ℕ → ℕ → ℕ) (arrived : ℕ → ℕ) →
    row_without_counts s u (sends_of s c u t ++ (grid (arms_of s u) s.destinations left ++ (grid (s.outs u) s.destinations entered ++ (list_below 1 arrived ++ limits_of s c u t))))
    ≡ sends_of s c u t ++ limits_of s c u t
without s c u t left entered arrived =
    ap (row_without_counts s u) (in_row s c u t left entered arrived)
    ∙ around (counts_begin (shape_at s u)) (supplies_begin (shape_at s u)) (sends_of s c u t) (blocks s u left entered arrived) (limits_of s c u t)
    (length-grid (arms_of s u) s.destinations (sending s c u t)) (omega (arith, length-blocks s u left entered arrived))

pub no_counts : (s : Setting) (c : Counts) (u t : ℕ) → row_without_counts s u (pair_row s c u t) ≡ sends_of s c u t ++ limits_of s c u t
no_counts s c u t = without s c u t (λ i d. c (arm_group s u i) d t) (λ j d. c (up_of (s.out_link u j)) d t) (λ k. arrived_by s c (s.own u) t)

-- the limits of a row
pub limits_in : (s : Setting) (c : Counts) (u t : ℕ) → slice_range (uncounted_row s c u t) (supplies_begin (shape_at s u)) (weights_begin (shape_at s u)) ≡ supply_part s c u t ++ capacity_part s u t
limits_in s c u t =
    let none : List ℕ = blocks s u (λ i d. 0) (λ j d. 0) (λ k. 0) in
    let shape : NodeShape = shape_at s u in
    ap (λ (z : List ℕ). slice_range z (supplies_begin shape) (weights_begin shape)) (in_row s c u t (λ i d. 0) (λ j d. 0) (λ k. 0))
    ∙ limits_written shape (sends_of s c u t) none (supply_part s c u t) (capacity_part s u t) (weights_part s u t)
    (length-grid (arms_of s u) s.destinations (sending s c u t)) (length-blocks s u (λ i d. 0) (λ j d. 0) (λ k. 0))
    (length-list_below (s.outs u) (λ j. receiving s c (s.out_link u j) t)) (length-list_below (arms_of s u) (arm_capacity s u t))

-- zeros in place of the counts are nothing to what is kept
without_zeros : (shape : NodeShape) (row : List ℕ) → counts_begin shape ≤ length row → without_counts shape (with_no_counts shape row) ≡ without_counts shape row
unfolding with_no_counts
without_zeros shape row long =
    around (counts_begin shape) (supplies_begin shape) (take (counts_begin shape) row) (replicate (counts_width shape) 0) (drop (supplies_begin shape) row)
    (length-take-le (counts_begin shape) row long) (omega (arith, length-replicate {A = ℕ} (counts_width shape) 0))

-- a row that is one of a pair but for the counts is long enough
pub long_uncounted : (s : Setting) (c : Counts) (u t : ℕ) (row : List ℕ) → with_no_counts (shape_at s u) row ≡ uncounted_row s c u t → counts_begin (shape_at s u) ≤ length row
unfolding with_no_counts
long_uncounted s c u t row is =
    let shape : NodeShape = shape_at s u in
    let zeros : List ℕ = replicate (counts_width shape) 0 in
    let rest : List ℕ = drop (supplies_begin shape) row in
    let none : List ℕ = blocks s u (λ i d. 0) (λ j d. 0) (λ k. 0) in
    omega (
      arith,
      ap length (is ∙ in_row s c u t (λ i d. 0) (λ j d. 0) (λ k. 0)),
      length-append (take (counts_begin shape) row) (zeros ++ rest),
      length-append zeros rest,
      length-take (counts_begin shape) row,
      length-replicate {A = ℕ} (counts_width shape) 0,
      length-drop (supplies_begin shape) row,
      length-append (sends_of s c u t) (none ++ limits_of s c u t),
      length-append none (limits_of s c u t),
      length-grid (arms_of s u) s.destinations (sending s c u t),
      length-blocks s u (λ i d. 0) (λ j d. 0) (λ k. 0),
    )

-- what is kept of inputs, whatever stands in place of their counts, is what is kept of the row
pub kept_uncounted : (s : Setting) (c : Counts) (u t : ℕ) (n : Inputs) → IsUncountedPair s c u t (uncounted n) → row_without_counts s u n.row ≡ row_without_counts s u (pair_row s c u t)
kept_uncounted s c u t n is =
    let row : with_no_counts (shape_at s u) n.row ≡ uncounted_row s c u t = subst (λ (z : NodeShape). with_no_counts z n.row ≡ uncounted_row s c u t) is.shape is.row in
    sym (without_zeros (shape_at s u) n.row (long_uncounted s c u t n.row row))
    ∙ (ap (row_without_counts s u) row ∙ (without s c u t (λ i d. 0) (λ j d. 0) (λ k. 0) ∙ sym (no_counts s c u t)))

-- and the counts of a pair's inputs are nothing to what stands there where they are not told
pub pair_uncounted : (s : Setting) (c : Counts) (u t : ℕ) (n : Inputs) → IsPairInputs s c u t n → IsUncountedPair s c u t (uncounted n)
pair_uncounted s c u t n is =
    let left : ℕ → ℕ → ℕ = λ i d. c (arm_group s u i) d t in
    let entered : ℕ → ℕ → ℕ = λ j d. c (up_of (s.out_link u j)) d t in
    let arrived : ℕ → ℕ = λ k. arrived_by s c (s.own u) t in
    let counts : List ℕ = blocks s u left entered arrived in
    record {
      shape = is.shape;
      row =
          ap (λ (z : NodeShape). with_no_counts z n.row) is.shape
          ∙ (ap (with_no_counts (shape_at s u)) (is.row ∙ in_row s c u t left entered arrived)
          ∙ uncounted_from s c u t (shape_at s u) (sends_of s c u t ++ (counts ++ limits_of s c u t)) refl
          (parts_written s c u t (shape_at s u) (sends_of s c u t) counts (limits_of s c u t) refl (length-blocks s u left entered arrived) refl refl));
    }

-- what is kept of a row gives the row again
pub fill_uncounted : (s : Setting) (c : Counts) (u t : ℕ) → with_node_counts s c u t (row_without_counts s u (pair_row s c u t)) ≡ pair_row s c u t
fill_uncounted s c u t =
    let n : ℕ = counts_begin (shape_at s u) in
    ap (with_node_counts s c u t) (no_counts s c u t)
    ∙ (between n (sends_of s c u t) (count_row s c u t) (limits_of s c u t) (length-grid (arms_of s u) s.destinations (sending s c u t))
    ∙ sym (in_row s c u t (λ i d. c (arm_group s u i) d t) (λ j d. c (up_of (s.out_link u j)) d t) (λ k. arrived_by s c (s.own u) t)))

-- and of counts that are filled in nothing is left
pub uncounted_filled : (s : Setting) (c : Counts) (u t : ℕ) (row : List ℕ) → counts_begin (shape_at s u) ≤ length row → row_without_counts s u (with_node_counts s c u t row) ≡ row
uncounted_filled s c u t row long =
    let n : ℕ = counts_begin (shape_at s u) in
    around n (supplies_begin (shape_at s u)) (take n row) (count_row s c u t) (drop n row) (length-take-le n row long) (omega (arith, length-counts s c u t)) ∙ take-append-drop n row

-- what a pair reads is as wide as its shape says
pub pair_long : (s : Setting) (c : Counts) (u t : ℕ) → length (pair_row s c u t) ≡ width (shape_at s u)
pair_long s c u t = omega (arith, length-pair_row s c u t, mul_comm s.destinations (s.outs u))

-- the parts of a row around the counts
pub parts_are : (s : Setting) (u : ℕ) (n : Inputs) (parts : List ℕ) → n.shape ≡ shape_at s u → parts ≡ without_counts n.shape n.row → parts ≡ row_without_counts s u n.row
parts_are s u n parts shape is = is ∙ ap (λ (z : NodeShape). without_counts z n.row) shape

-- ---- what is kept of a table
pub long_row : (s : Setting) (slots : ℕ) (k : KeptRows) (u t : ℕ) → HasRows s slots k → u < s.nodes → t < slots → counts_begin (shape_at s u) ≤ length (row_of k u t)
long_row s slots k u t has x l =
    let node : u < nodes_kept k = omega (arith, x, has.amounts.nodes) in
    omega (arith, length-append (amounts_of k u t) (weights_of k u t), length_row k u t node (omega (arith, l, has.same_slots)), has.amounts.widths u x)

same_some : (x y : List ℕ) → Some x ≡ Some y → x ≡ y
same_some x y e = cc

-- a row that is kept is that of the pair where its parts are
pub kept_whole : (s : Setting) (t : Table) (u v : ℕ) → kept_row t.kept u v ≡ Some (row_without_counts s u (pair_row s (counts_of t.curves) u v)) → kept_of s t u v ≡ Some (pair_row s (counts_of t.curves) u v)
kept_whole s t u v same = ap (option_map (with_node_counts s (counts_of t.curves) u v)) same ∙ ap (λ (z : List ℕ). Some z) (fill_uncounted s (counts_of t.curves) u v)

pub whole_kept : (s : Setting) (t : Table) (u v : ℕ) → HasRows s s.slots t.kept → u < s.nodes → v < s.slots → kept_of s t u v ≡ Some (pair_row s (counts_of t.curves) u v) →
    kept_row t.kept u v ≡ Some (row_without_counts s u (pair_row s (counts_of t.curves) u v))
whole_kept s t u v has x l same =
    let c : Counts = counts_of t.curves in
    elim (cases_Bool (has_row t.kept u v)) [
      | inl on ↦
          let there : kept_row t.kept u v ≡ Some (row_of t.kept u v) = some_kept t.kept u v on in
          let one : Some (with_node_counts s c u v (row_of t.kept u v)) ≡ Some (pair_row s c u v) = sym (ap (option_map (with_node_counts s c u v)) there) ∙ same in
          let row : with_node_counts s c u v (row_of t.kept u v) ≡ pair_row s c u v = same_some (with_node_counts s c u v (row_of t.kept u v)) (pair_row s c u v) one in
          there ∙ ap (λ (z : List ℕ). Some z) (sym (uncounted_filled s c u v (row_of t.kept u v) (long_row s s.slots t.kept u v has x l)) ∙ ap (row_without_counts s u) row)
      | inr off ↦
          let none : kept_of s t u v ≡ None = ap (option_map (with_node_counts s c u v)) (none_kept t.kept u v off) in
          absurd (cc)
    ]

-- the same row and the same counts give the same
pub same_kept_of : (s : Setting) (a b : Table) (u v : ℕ) → kept_row b.kept u v ≡ kept_row a.kept u v → count_row s (counts_of b.curves) u v ≡ count_row s (counts_of a.curves) u v → kept_of s b u v ≡ kept_of s a u v
same_kept_of s a b u v row counts =
    let n : ℕ = counts_begin (shape_at s u) in
    ap (option_map (with_node_counts s (counts_of b.curves) u v)) row
    ∙ ap (λ (z : List ℕ). option_map (λ (r : List ℕ). take n r ++ (z ++ drop n r)) (kept_row a.kept u v)) counts

-- ---- the counts of a node after those of one were set
pub counts_stay : (s : Setting) (old new : Counts) (u k : ℕ) (o : Outputs) (w y : ℕ) → SetsOutputs s old new u k o → w < s.nodes → y ≤ s.slots → (u ≡ w → k ≡ y → ⊥) → count_row s new w y ≡ count_row s old w y
counts_stay s old new u k o w y sets x l other =
    counts_set_only_holds s new old w y sets.setting x
    (λ g d of m.
    let there = of_group s w g d sets.setting x of in
    elim (cases_eq y k) [
      | inr apart ↦ sets.later g d y there m l apart
      | inl at ↦ subst (λ (z : ℕ). new g d z ≡ old g d z) (sym at)
          (sets.others g d there m (λ mine. other (set_by_one_pair_holds.one s u w g d sets.setting sets.is_node x mine of) (sym at)))
    ])

-- what a pair of the slot before the boundary reads stays
pub slot_same : (s : Setting) (old new : Counts) (u v : ℕ) (o : Outputs) (w : ℕ) → SetsOutputs s old new u (v + 1) o → w < s.nodes → pair_row s new w v ≡ pair_row s old w v
slot_same s old new u v o w sets x =
    pair_row_same s new old w v sets.setting (record { same = λ g d k y m low. sets.later g d k y m (omega (arith, low, sets.within)) (λ at. omega (arith, at, low)) }) x

or_none : (a b : Bool) → (a || b) ≡ false → (a ≡ false) × (b ≡ false)
or_none true b e = absurd (cc)
or_none false b e = (refl, e)

none_of : (n : ℕ) (f : ℕ → Bool) → some_below n f ≡ false → (k : ℕ) → k < n → f k ≡ false
none_of n f none k l = elim (cases_Bool (f k)) [
  | inr off ↦ off
  | inl on ↦ let some : some_below n f ≡ true = one_below n f k l on in absurd (cc)
]

no_other : (a b : ℕ) → not (a == b) ≡ false → a ≡ b
no_other a b none = elim (cases_eq a b) [
  | inl same ↦ same
  | inr apart ↦ let on : not (a == b) ≡ true = differ a b apart in absurd (cc)
]

sink_holds : (s : Setting) (c : Counts) (own : Option ℕ) (k x : ℕ) → x ≡ arrived_by s c own k → sink_differs s c own k x ≡ false
sink_holds s c None k x at = refl
sink_holds s c (Some d) k x at = do_not_differ (c (arr_of s) d k) x (sym at)

-- where they hold the outputs none differs
none_differ : (s : Setting) (c : Counts) (u k : ℕ) (o : Outputs) → HoldsCounts s c u k o → any_differs s c u k o ≡ false
none_differ s c u k o holds =
    let arms : some_below (arms_of s u) (arm_differs s c u k o) ≡ false =
    none_below (arms_of s u) (arm_differs s c u k o) (λ i l. none_below s.destinations (λ d. not (c (arm_group s u i) d k == left_after o i d)) (λ d m. do_not_differ (c (arm_group s u i) d k) (left_after o i d) (sym (holds.left i d l m)))) in
    let outs : some_below (s.outs u) (out_differs s c u k o) ≡ false =
    none_below (s.outs u) (out_differs s c u k o) (λ j l. none_below s.destinations (λ d. not (c (up_of (s.out_link u j)) d k == entered_after o j d)) (λ d m. do_not_differ (c (up_of (s.out_link u j)) d k) (entered_after o j d) (sym (holds.entered j d l m)))) in
    let sink : sink_differs s c (s.own u) k (arrived_after o) ≡ false = sink_holds s c (s.own u) k (arrived_after o) holds.arrived in
    rw (arms, outs, sink) refl

-- and where none differs they are the same
sink_same : (s : Setting) (old new : Counts) (own : Option ℕ) (k x d : ℕ) → own ≡ Some d → sink_differs s old own k x ≡ false → x ≡ arrived_by s new own k → new (arr_of s) d k ≡ old (arr_of s) d k
sink_same s old new None k x d is off at = absurd (cc)
sink_same s old new (Some e) k x d is off at =
    let same : e ≡ d = cc in
    subst (λ (z : ℕ). new (arr_of s) z k ≡ old (arr_of s) z k) same (sym at ∙ sym (no_other (old (arr_of s) e k) x off))

count_same : (s : Setting) (old new : Counts) (u k : ℕ) (o : Outputs) (g d : ℕ) → SetsOutputs s old new u k o → any_differs s old u k o ≡ false → IsOf s u g d → d < s.destinations → new g d k ≡ old g d k
count_same s old new u k o g d sets off of m =
    let P : ℕ → Type 0 = λ z. new z d k ≡ old z d k in
    let first = or_none (some_below (arms_of s u) (arm_differs s old u k o)) (some_below (s.outs u) (out_differs s old u k o) || sink_differs s old (s.own u) k (arrived_after o)) off in
    let next = or_none (some_below (s.outs u) (out_differs s old u k o)) (sink_differs s old (s.own u) k (arrived_after o)) first.1 in
    elim of [
      | inl arm ↦
          let none : not (old (arm_group s u arm.0) d k == left_after o arm.0 d) ≡ false =
          none_of s.destinations (λ e. not (old (arm_group s u arm.0) e k == left_after o arm.0 e)) (none_of (arms_of s u) (arm_differs s old u k o) first.0 arm.0 arm.1) d m in
          subst P arm.2 (sym (sets.holds.left arm.0 d arm.1 m) ∙ sym (no_other (old (arm_group s u arm.0) d k) (left_after o arm.0 d) none))
      | inr other ↦ elim other [
        | inl out ↦
            let none : not (old (up_of (s.out_link u out.0)) d k == entered_after o out.0 d) ≡ false =
            none_of s.destinations (λ e. not (old (up_of (s.out_link u out.0)) e k == entered_after o out.0 e)) (none_of (s.outs u) (out_differs s old u k o) next.0 out.0 out.1) d m in
            subst P out.2 (sym (sets.holds.entered out.0 d out.1 m) ∙ sym (no_other (old (up_of (s.out_link u out.0)) d k) (entered_after o out.0 d) none))
        | inr come ↦ subst P come.0 (sink_same s old new (s.own u) k (arrived_after o) d come.1 next.1 sets.holds.arrived)
      ]
    ]

pub counts_same : (s : Setting) (old new : Counts) (u k : ℕ) (o : Outputs) → SetsOutputs s old new u k o → any_differs s old u k o ≡ false → count_row s new u k ≡ count_row s old u k
counts_same s old new u k o sets off = counts_set_only_holds s new old u k sets.setting sets.is_node (λ g d of m. count_same s old new u k o g d sets off of m)

-- where some differs they are other ones
hold_again : (s : Setting) (old new : Counts) (u k : ℕ) (o : Outputs) → CountsByPlace → SetsOutputs s old new u k o → count_row s new u k ≡ count_row s old u k → HoldsCounts s old u k o
hold_again s old new u k o by_place sets same =
    let was : HoldsCounts s old u k (record { shape = shape_at s u; row = count_row s old u k; room = 0 }) = (by_place s old u k).0 in
    let now : HoldsCounts s new u k (record { shape = shape_at s u; row = count_row s old u k; room = 0 }) =
    subst (λ (z : List ℕ). HoldsCounts s new u k (record { shape = shape_at s u; row = z; room = 0 })) same (by_place s new u k).0 in
    record {
      left = λ i d l m. sets.holds.left i d l m ∙ (sym (now.left i d l m) ∙ was.left i d l m);
      entered = λ j d l m. sets.holds.entered j d l m ∙ (sym (now.entered j d l m) ∙ was.entered j d l m);
      arrived = sets.holds.arrived ∙ (sym now.arrived ∙ was.arrived);
    }

pub counts_differ : (s : Setting) (old new : Counts) (u k : ℕ) (o : Outputs) → CountsByPlace → SetsOutputs s old new u k o → any_differs s old u k o ≡ true → count_row s new u k ≢ count_row s old u k
counts_differ s old new u k o by_place sets on same =
    let off : any_differs s old u k o ≡ false = none_differ s old u k o (hold_again s old new u k o by_place sets same) in
    absurd (cc)

-- ---- what is forgotten, if anything
pub forgets_on : (b : Bool) (old new : KeptRows) (u t : ℕ) → b ≡ true → ForgetsRow old new u t → ForgetsIf b old new u t
forgets_on true old new u t on is = is
forgets_on false old new u t on is = absurd (cc)

pub forgets_off : (b : Bool) (k : KeptRows) (u t : ℕ) → b ≡ false → ForgetsIf b k k u t
forgets_off true k u t off = absurd (cc)
forgets_off false k u t off = refl

pub forgets_rows : (b : Bool) (old new : KeptRows) (u t : ℕ) → ForgetsIf b old new u t → SamePlaces old new × (slots_kept new ≡ slots_kept old)
forgets_rows true old new u t is = (is.places, is.slots)
forgets_rows false old new u t is = (is_same_places old new is, ap slots_kept is)

pub forgets_others : (b : Bool) (old new : KeptRows) (u t w v : ℕ) → ForgetsIf b old new u t → w < nodes_kept old → v < slots_kept old → (u ≡ w → t ≡ v → ⊥) → kept_row new w v ≡ kept_row old w v
forgets_others true old new u t w v is x l other = is.others w v x l other
forgets_others false old new u t w v is x l other = ap (λ (z : KeptRows). kept_row z w v) is

pub forgets_none : (b : Bool) (old new : KeptRows) (u t : ℕ) → b ≡ false → ForgetsIf b old new u t → kept_row new u t ≡ kept_row old u t
forgets_none true old new u t off is = absurd (cc)
forgets_none false old new u t off is = ap (λ (z : KeptRows). kept_row z u t) is

pub forgets_one : (b : Bool) (old new : KeptRows) (u t : ℕ) → b ≡ true → ForgetsIf b old new u t → u < nodes_kept old → t < slots_kept old → kept_row new u t ≡ None
forgets_one true old new u t on is x l = is.gone x l
forgets_one false old new u t on is x l = absurd (cc)

pub rows_left : (s : Setting) (slots : ℕ) (b : Bool) (old new : KeptRows) (u t : ℕ) → HasRows s slots old → ForgetsIf b old new u t → HasRows s slots new
rows_left s slots b old new u t has is = let size = forgets_rows b old new u t is in rows_lie s slots old new has size.0 size.1
