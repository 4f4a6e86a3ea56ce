-- The parts of a pair's row, joined.
use Rattle.std.proofs.Common.{◌≤◌, ◌≡◌, ℕ, List, length, take, drop, ap, sym, subst, ◌∙◌}
use Rattle.std.proofs.lemmas.List.{take-append-le}
use Rattle.ltm_curve.specs.Counts.{Counts}
use Rattle.ltm_node.specs.declared.shape.NodeShape.{NodeShape}
use Rattle.ltm_node.specs.Shape.{width}
use Rattle.ltm_node.specs.Inputs.{Inputs}
use Rattle.ltm_node.specs.Lending.{with_numbers}
use Rattle.ltm_node.specs.Solvable.{IsSolvable}
use Rattle.ltm_node.specs.Uncounted.{uncounted, with_no_counts}
use Rattle.ltm_loading.specs.Setting.{Setting}
use Rattle.ltm_loading.specs.Pairs.{shape_at, pair_row, pair_inputs}
use Rattle.ltm_loading.specs.NextPair.{IsPairInputs}
use Rattle.ltm_loading.specs.Uncounted.{uncounted_row, IsUncountedPair}

-- what is written over a room with this row at its front is that row
pub written_row : (s : Setting) (c : Counts) (u t : ℕ) (old new : Inputs) (numbers : List ℕ) → old.shape ≡ shape_at s u → new ≡ with_numbers old numbers → width old.shape ≤ length numbers → take (width old.shape) numbers ≡ pair_row s c u t →
    IsPairInputs s c u t new
written_row s c u t old new numbers shape is long row = record {
  shape = ap (λ (n : Inputs). n.shape) is ∙ shape;
  row = ap (λ (n : Inputs). n.row) is ∙ (take-append-le (width old.shape) numbers (drop (length numbers) old.row) long ∙ row);
}

-- so is a row of which the counts are not told
pub written_uncounted : (s : Setting) (c : Counts) (u t : ℕ) (old new : Inputs) (numbers : List ℕ) → old.shape ≡ shape_at s u → new ≡ with_numbers old numbers → width old.shape ≤ length numbers →
    with_no_counts old.shape (take (width old.shape) numbers) ≡ uncounted_row s c u t → IsUncountedPair s c u t (uncounted new)
written_uncounted s c u t old new numbers shape is long row = record {
  shape = ap (λ (n : Inputs). n.shape) is ∙ shape;
  row = ap (λ (n : Inputs). with_no_counts n.shape n.row) is ∙ (ap (with_no_counts old.shape) (take-append-le (width old.shape) numbers (drop (length numbers) old.row) long) ∙ row);
}

-- the conditions of a node step speak of shape and row alone
pub solvable_inputs : (s : Setting) (c : Counts) (u t : ℕ) (n : Inputs) → IsPairInputs s c u t n → IsSolvable (pair_inputs s c u t) → IsSolvable n
solvable_inputs s c u t n p h =
    let with_room : IsSolvable (record { shape = shape_at s u; row = pair_row s c u t; room = n.room }) = record {
      few_arms = h.few_arms;
      few_outs = h.few_outs;
      few_destinations = h.few_destinations;
      some_capacity = h.some_capacity;
      capacities = h.capacities;
      within_capacity = h.within_capacity;
      supplies = h.supplies;
      weights = h.weights;
      left_counts = h.left_counts;
      entered_counts = h.entered_counts;
      arrived_count = h.arrived_count;
    } in
    let with_row : IsSolvable (record { shape = shape_at s u; row = n.row; room = n.room }) =
    subst (λ (z : List ℕ). IsSolvable (record { shape = shape_at s u; row = z; room = n.room })) (sym p.row) with_room in
    subst (λ (z : NodeShape). IsSolvable (record { shape = z; row = n.row; room = n.room })) (sym p.shape) with_row
