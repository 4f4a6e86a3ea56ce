-- What the step of a pair moves does not depend on its counts.
use Rattle.std.proofs.Common.{◌≡◌, ℕ, ◌+◌, ◌*◌, ◌<◌, List, ◌++◌, length, length-append, slice_index, arith, refl, sym, subst, ◌∙◌}
use Rattle.std.proofs.lemmas.Nat.{mul-add-lt}
use Rattle.ltm_curve.specs.Counts.{Counts}
use Rattle.ltm_curve.specs.First.{list_below}
use Rattle.ltm_curve.proofs.Lists.{length-list_below, index-list_below}
use Rattle.ltm_node.specs.declared.shape.NodeShape.{NodeShape}
use Rattle.ltm_node.specs.Shape.{counts_width}
use Rattle.ltm_node.specs.Inputs.{Inputs}
use Rattle.ltm_node.specs.Step.{IsNodeStep}
use Rattle.ltm_node.specs.Laws.{IsUncounted, IsMovedOn}
use Rattle.ltm_node.proofs.Uncounted.{moves_add_holds, uncounted_solvable}
use Rattle.ltm_loading.specs.Setting.{Setting}
use Rattle.ltm_loading.specs.Groups.{up_of}
use Rattle.ltm_loading.specs.Flows.{receiving}
use Rattle.ltm_loading.specs.Pairs.{arms_of, shape_at, sending, arm_group, arm_capacity, arrived_by, grid, pair_row, pair_inputs, count_row}
use Rattle.ltm_loading.specs.Uncounted.{uncounted_row, moved_on, outputs_at, StepByMoves, UncountedInRange}
use Rattle.ltm_loading.proofs.Rows.{HasParts, HasCounts, has_parts, pair_parts, next_counts, length-grid}
use Rattle.ltm_loading.proofs.SameRows.{length-pair_row}
use Rattle.ltm_loading.proofs.Setters.{same_step}
use Rattle.ltm_loading.proofs.Bounds.{in_range_holds}

pub uncounted_parts : (s : Setting) (c : Counts) (u t : ℕ) →
    HasParts (uncounted_row s c u t) (arms_of s u) (s.outs u) s.destinations (sending s c u t) (λ i d. 0) (λ j d. 0) 0 (λ j. receiving s c (s.out_link u j) t) (arm_capacity s u t) (λ d j. s.weight u d t j)
uncounted_parts s c u t =
    has_parts (arms_of s u) (s.outs u) s.destinations (sending s c u t) (λ i d. 0) (λ j d. 0) 0 (λ j. receiving s c (s.out_link u j) t) (arm_capacity s u t) (λ d j. s.weight u d t j)

length-uncounted_row : (s : Setting) (c : Counts) (u t : ℕ) → length (uncounted_row s c u t) ≡ length (pair_row s c u t)
length-uncounted_row s c u t =
    let p1 : List ℕ = grid (arms_of s u) s.destinations (sending s c u t) in
    let p2 : List ℕ = grid (arms_of s u) s.destinations (λ i d. 0) in
    let p3 : List ℕ = grid (s.outs u) s.destinations (λ j d. 0) in
    let p4 : List ℕ = list_below 1 (λ k. 0) in
    let p5 : List ℕ = list_below (s.outs u) (λ j. receiving s c (s.out_link u j) t) in
    let p6 : List ℕ = list_below (arms_of s u) (arm_capacity s u t) in
    let p7 : List ℕ = grid s.destinations (s.outs u) (λ d j. s.weight u d t j) in
    omega (
      arith,
      length-pair_row s c u t,
      length-append p1 (p2 ++ (p3 ++ (p4 ++ (p5 ++ (p6 ++ p7))))),
      length-append p2 (p3 ++ (p4 ++ (p5 ++ (p6 ++ p7)))),
      length-append p3 (p4 ++ (p5 ++ (p6 ++ p7))),
      length-append p4 (p5 ++ (p6 ++ p7)),
      length-append p5 (p6 ++ p7),
      length-append p6 p7,
      length-grid (arms_of s u) s.destinations (sending s c u t),
      length-grid (arms_of s u) s.destinations (λ i d. 0),
      length-grid (s.outs u) s.destinations (λ j d. 0),
      length-list_below 1 (λ k. 0),
      length-list_below (s.outs u) (λ j. receiving s c (s.out_link u j) t),
      length-list_below (arms_of s u) (arm_capacity s u t),
      length-grid s.destinations (s.outs u) (λ d j. s.weight u d t j),
    )

abbrev uncounted_inputs : Setting → Counts → ℕ → ℕ → ℕ → Inputs
uncounted_inputs s c u t room = record { shape = shape_at s u; row = uncounted_row s c u t; room = room }

is_uncounted : (s : Setting) (c : Counts) (u t room : ℕ) → IsUncounted (pair_inputs s c u t) (uncounted_inputs s c u t room)
is_uncounted s c u t room =
    let p = pair_parts s c u t in
    let q = uncounted_parts s c u t in
    record {
      shape = refl;
      width = length-uncounted_row s c u t;
      sending = λ i d l x. q.sending i d l x ∙ sym (p.sending i d l x);
      supply = λ j l. q.supply j l ∙ sym (p.supply j l);
      capacity = λ i l. q.capacity i l ∙ sym (p.capacity i l);
      weight = λ d j l x. q.weight d j l x ∙ sym (p.weight d j l x);
      left = q.left;
      entered = q.entered;
      arrived = q.arrived;
    }

-- the counts that have moved on, by place
moved_number : (s : Setting) (c : Counts) (u k : ℕ) (moves : List ℕ) (i : ℕ) → i < counts_width (shape_at s u) → slice_index (moved_on s c u k moves) i ≡ slice_index (count_row s c u k) i + slice_index moves i
moved_number s c u k moves i l = index-list_below (counts_width (shape_at s u)) (λ i. slice_index (count_row s c u k) i + slice_index moves i) i l

pub moved_counts : (s : Setting) (c : Counts) (u k : ℕ) (moves : List ℕ) →
    HasCounts (moved_on s c u k moves) (arms_of s u) (s.outs u) s.destinations (λ i d. c (arm_group s u i) d k + slice_index moves (i * s.destinations + d))
    (λ j d. c (up_of (s.out_link u j)) d k + slice_index moves (arms_of s u * s.destinations + (j * s.destinations + d)))
    (arrived_by s c (s.own u) k + slice_index moves (arms_of s u * s.destinations + s.outs u * s.destinations))
moved_counts s c u k moves =
    let a : ℕ = arms_of s u in
    let o : ℕ = s.outs u in
    let m : ℕ = s.destinations in
    let h = next_counts s c u k in
    record {
      left = λ i d l x. omega (arith, moved_number s c u k moves (i * m + d) (omega (arith, mul-add-lt i m d a l x)), h.left i d l x);
      entered = λ j d l x. omega (arith, moved_number s c u k moves (a * m + (j * m + d)) (omega (arith, mul-add-lt j m d o l x)), h.entered j d l x);
      arrived = omega (arith, moved_number s c u k moves (a * m + o * m) (omega arith), h.arrived);
    }

is_moved_on : (s : Setting) (c : Counts) (u t : ℕ) (moves : List ℕ) → IsMovedOn (pair_inputs s c u t) (outputs_at s u moves) (outputs_at s u (moved_on s c u t moves))
is_moved_on s c u t moves =
    let p = pair_parts s c u t in
    let h = moved_counts s c u t moves in
    record {
      shape = refl;
      width = length-list_below (counts_width (shape_at s u)) (λ i. slice_index (count_row s c u t) i + slice_index moves i);
      left = λ i d l x. omega (arith, h.left i d l x, p.left i d l x);
      entered = λ j d l x. omega (arith, h.entered j d l x, p.entered j d l x);
      arrived = omega (arith, h.arrived, p.arrived);
    }

pub step_by_moves_holds : StepByMoves
step_by_moves_holds s c u t n moves reads step =
    let once : IsNodeStep (uncounted_inputs s c u t 0) (outputs_at s u moves.row) = same_step n moves (shape_at s u) (uncounted_row s c u t) moves.row reads.shape reads.row refl step in
    moves_add_holds (pair_inputs s c u t) (uncounted_inputs s c u t 0) (outputs_at s u moves.row) (outputs_at s u (moved_on s c u t moves.row)) (is_uncounted s c u t 0) once (is_moved_on s c u t moves.row)

pub uncounted_in_range_holds : UncountedInRange
uncounted_in_range_holds s c t u n v f y x reads =
    let base : IsUncounted (pair_inputs s c u t) (record { shape = shape_at s u; row = n.row; room = n.room }) =
    subst (λ (z : List ℕ). IsUncounted (pair_inputs s c u t) (record { shape = shape_at s u; row = z; room = n.room })) (sym reads.row) (is_uncounted s c u t n.room) in
    uncounted_solvable (pair_inputs s c u t) n (subst (λ (z : NodeShape). IsUncounted (pair_inputs s c u t) (record { shape = z; row = n.row; room = n.room })) (sym reads.shape) base) (in_range_holds s c t u v f y x)
