-- Counts are the node step of a pair exactly where they grow by what moves.
use Rattle.std.proofs.Common.{◌≡◌, ℕ, ◌+◌, ◌*◌, ◌<◌, List, length, length-append, ◌++◌, slice_index, Option, Some, None, arith, refl, ap, sym, subst, ◌∙◌}
use Rattle.std.proofs.Math.Nat.{add-mul}
use Rattle.std.proofs.lemmas.Nat.{mul-add-lt}
use Rattle.ltm_curve.specs.Counts.{Counts}
use Rattle.ltm_curve.specs.First.{list_below}
use Rattle.ltm_curve.proofs.Lists.{length-list_below, index-list_below}
use Rattle.ltm_node.specs.Shape.{counts_width}
use Rattle.ltm_node.specs.declared.shape.NodeShape.{NodeShape}
use Rattle.ltm_node.specs.Outputs.{Outputs, arrived_after, arrived_after_place}
use Rattle.ltm_node.specs.Step.{IsNodeStep}
use Rattle.ltm_node.specs.Solvable.{IsSolvable}
use Rattle.ltm_node.specs.Laws.{OneStep, SameShape, NothingMoves}
use Rattle.ltm_loading.specs.Setting.{Setting}
use Rattle.ltm_loading.specs.Groups.{up_of}
use Rattle.ltm_loading.specs.Pairs.{arms_of, arm_group, arrived_by, shape_at, grid, pair_inputs, count_row, pair_outputs, MeetsStep}
use Rattle.ltm_loading.specs.ByPlace.{InputsByPlace, CountsByPlace}
use Rattle.ltm_loading.specs.NodeGroups.{group_count, node_group, IsRowOf, GroupsByRow}
use Rattle.ltm_loading.specs.Uncounted.{moved_on, outputs_at}
use Rattle.ltm_loading.proofs.Rows.{length-grid}
use Rattle.ltm_inputs.specs.Idle.{IsIdle}
use Rattle.ltm_check.specs.Moves.{moving, arrives, GrowBy}

-- a row holds the counts of a node at a boundary and what moves
pub record HoldsSums (s : Setting) (c : Counts) (u t : ℕ) (moves : Option Outputs) (row : List ℕ) : Type 0 where
  pub groups : (i d : ℕ) → i < group_count s u → d < s.destinations → slice_index row (i * s.destinations + d) ≡ c (node_group s u i) d t + moving s.destinations moves i d
  pub arrived : slice_index row (group_count s u * s.destinations) ≡ arrived_by s c (s.own u) t + arrives moves

-- the counts and what a step moves
pub moved_sums : (s : Setting) (c : Counts) (u t : ℕ) (m : Outputs) → GroupsByRow → m.shape ≡ shape_at s u → HoldsSums s c u t (Some m) (moved_on s c u t m.row)
moved_sums s c u t m by_row e =
    let row : List ℕ = count_row s c u t in
    let holds : IsRowOf s c u t row = (by_row s c u t).0 in
    let n : ℕ = group_count s u in
    let wide : ℕ = counts_width (shape_at s u) in
    let both : n * s.destinations ≡ arms_of s u * s.destinations + s.outs u * s.destinations = add-mul (arms_of s u) (s.outs u) s.destinations in
    let sum : ℕ → ℕ = λ k. slice_index row k + slice_index m.row k in
    let come : arrived_after m ≡ slice_index m.row (n * s.destinations) = ap (λ (z : NodeShape). slice_index m.row (arrived_after_place z)) e ∙ ap (λ (z : ℕ). slice_index m.row z) (sym both) in
    record {
      groups = λ i d l x.
          let place : i * s.destinations + d < n * s.destinations = omega (arith, mul-add-lt i s.destinations d n l x) in
          omega (arith, index-list_below wide sum (i * s.destinations + d) (omega (arith, place, both)), holds.groups i d l x);
      arrived = omega (arith, index-list_below wide sum (n * s.destinations) (omega (arith, both)), holds.arrived, come);
    }

-- the counts, where nothing moves
pub still_sums : (s : Setting) (c : Counts) (u t : ℕ) → GroupsByRow → HoldsSums s c u t None (count_row s c u t)
still_sums s c u t by_row =
    let holds : IsRowOf s c u t (count_row s c u t) = (by_row s c u t).0 in
    record { groups = λ i d l m. omega (arith, holds.groups i d l m); arrived = omega (arith, holds.arrived) }

width-count_row : (s : Setting) (c : Counts) (u k : ℕ) → length (count_row s c u k) ≡ counts_width (shape_at s u)
width-count_row s c u k =
    let arms : List ℕ = grid (arms_of s u) s.destinations (λ i d. c (arm_group s u i) d k) in
    let outs : List ℕ = grid (s.outs u) s.destinations (λ j d. c (up_of (s.out_link u j)) d k) in
    let sink : List ℕ = list_below 1 (λ i. arrived_by s c (s.own u) k) in
    omega (
      arith,
      length-append arms (outs ++ sink),
      length-append outs sink,
      length-grid (arms_of s u) s.destinations (λ i d. c (arm_group s u i) d k),
      length-grid (s.outs u) s.destinations (λ j d. c (up_of (s.out_link u j)) d k),
      length-list_below 1 (λ i. arrived_by s c (s.own u) k),
    )

-- they are the node step where no arm sends anything
pub still_step : (s : Setting) (c : Counts) (u t : ℕ) → InputsByPlace → CountsByPlace → NothingMoves → IsIdle s c u t → IsNodeStep (pair_inputs s c u t) (pair_outputs s c u t)
still_step s c u t inputs places law idle =
    let reads = (inputs s c u t).0 in
    let holds = (places s c u t).0 in
    law (pair_inputs s c u t) (pair_outputs s c u t) (λ i d l m. reads.sending i d l m ∙ idle i d l m) (record {
      shape = refl;
      width = width-count_row s c u t;
      left = λ i d l m. holds.left i d l m ∙ sym (reads.left i d l m);
      entered = λ j d l m. holds.entered j d l m ∙ sym (reads.entered j d l m);
      arrived = holds.arrived ∙ sym reads.arrived;
    })

-- ---- counts are the node step where they are those that the step gives
holds_meets : (s : Setting) (c : Counts) (u t : ℕ) (row : List ℕ) → GroupsByRow → SameShape → IsNodeStep (pair_inputs s c u t) (outputs_at s u row) → IsRowOf s c u (t + 1) row → MeetsStep s c u t
holds_meets s c u t row by_row shapes step holds =
    let same : count_row s c u (t + 1) ≡ row = (by_row s c u (t + 1)).1 row (shapes (pair_inputs s c u t) (outputs_at s u row) step).1 holds in
    subst (λ (z : List ℕ). IsNodeStep (pair_inputs s c u t) (outputs_at s u z)) (sym same) step

meets_holds : (s : Setting) (c : Counts) (u t : ℕ) (row : List ℕ) → GroupsByRow → OneStep → IsSolvable (pair_inputs s c u t) → IsNodeStep (pair_inputs s c u t) (outputs_at s u row) → MeetsStep s c u t → IsRowOf s c u (t + 1) row
meets_holds s c u t row by_row one solvable step meets =
    let same : row ≡ count_row s c u (t + 1) = one (pair_inputs s c u t) solvable (outputs_at s u row) (pair_outputs s c u (t + 1)) step meets in
    subst (λ (z : List ℕ). IsRowOf s c u (t + 1) z) (sym same) (by_row s c u (t + 1)).0

-- ---- and those grow by what moves
pub grow_meets : (s : Setting) (c : Counts) (u t : ℕ) (moves : Option Outputs) (row : List ℕ) → GroupsByRow → SameShape → IsNodeStep (pair_inputs s c u t) (outputs_at s u row) → HoldsSums s c u t moves row → GrowBy s c u t moves → MeetsStep s c u t
grow_meets s c u t moves row by_row shapes step sums grow =
    holds_meets s c u t row by_row shapes step (record { groups = λ i d l m. sums.groups i d l m ∙ sym (grow.groups i d l m); arrived = sums.arrived ∙ sym grow.arrived })

pub meets_grow : (s : Setting) (c : Counts) (u t : ℕ) (moves : Option Outputs) (row : List ℕ) → GroupsByRow → OneStep → IsSolvable (pair_inputs s c u t) → IsNodeStep (pair_inputs s c u t) (outputs_at s u row) → HoldsSums s c u t moves row → MeetsStep s c u t → GrowBy s c u t moves
meets_grow s c u t moves row by_row one solvable step sums meets =
    let holds = meets_holds s c u t row by_row one solvable step meets in
    record { groups = λ i d l m. sym (holds.groups i d l m) ∙ sums.groups i d l m; arrived = sym holds.arrived ∙ sums.arrived }
