-- What the node step of a pair gives, that of a pair whose arms send nothing, and counts that are carried on.
use Rattle.std.proofs.Common.{◌≡◌, ℕ, ◌+◌, ◌<◌, Option, None, Some, List, length, length-append, ◌++◌, inl, inr, slice_index, arith, refl, ap, sym, ◌∙◌}
use Rattle.ltm_curve.specs.Counts.{Counts}
use Rattle.ltm_curve.specs.First.{list_below}
use Rattle.ltm_curve.proofs.Lists.{length-list_below}
use Rattle.ltm_node.specs.declared.shape.NodeShape.{NodeShape}
use Rattle.ltm_node.specs.Shape.{counts_width, arrived_place}
use Rattle.ltm_node.specs.Inputs.{Inputs, arrived}
use Rattle.ltm_node.specs.Outputs.{Outputs, arrived_after}
use Rattle.ltm_node.specs.Step.{IsNodeStep}
use Rattle.ltm_node.specs.Laws.{NoArrivals, NothingMoves}
use Rattle.ltm_loading.specs.Setting.{Setting, IsSetting}
use Rattle.ltm_loading.specs.Groups.{up_of, arr_of}
use Rattle.ltm_loading.specs.Pairs.{arms_of, arm_group, shape_at, arrived_by, grid, pair_inputs, count_row, pair_outputs, MeetsStep}
use Rattle.ltm_loading.specs.NextPair.{IsOf, IsPairInputs}
use Rattle.ltm_loading.specs.Uncounted.{IsUncountedPair}
use Rattle.ltm_loading.specs.ByPlace.{InputsByPlace, CountsByPlace, HoldsInputs, HoldsCounts}
use Rattle.ltm_loading.proofs.Rows.{length-grid}
use Rattle.ltm_loading.proofs.Uncounted.{uncounted_parts}
use Rattle.ltm_inputs.specs.Idle.{IsIdle}

-- nothing arrives at a node that is no destination
pub none_arrived : (s : Setting) (c : Counts) (u t : ℕ) (n : Inputs) (o : Outputs) → InputsByPlace → NoArrivals → IsPairInputs s c u t n → IsNodeStep n o → s.own u ≡ None → arrived_after o ≡ 0
none_arrived s c u t n o by_place law reads step own =
    let come : arrived n ≡ 0 =
    ap (λ (z : NodeShape). slice_index n.row (arrived_place z)) reads.shape
    ∙ (ap (λ (xs : List ℕ). slice_index xs (arrived_place (shape_at s u))) reads.row
    ∙ ((by_place s c u t).0.arrived ∙ ap (λ (z : Option ℕ). arrived_by s c z t) own)) in
    law n o step (ap (λ (z : NodeShape). z.own) reads.shape ∙ own) ∙ come

-- nor does anything move into it
pub none_moves_in : (s : Setting) (c : Counts) (u t : ℕ) (n : Inputs) (o : Outputs) → NoArrivals → IsUncountedPair s c u t n → IsNodeStep n o → s.own u ≡ None → arrived_after o ≡ 0
none_moves_in s c u t n o law reads step own =
    let come : arrived n ≡ 0 =
    ap (λ (z : NodeShape). slice_index n.row (arrived_place z)) reads.shape
    ∙ (ap (λ (xs : List ℕ). slice_index xs (arrived_place (shape_at s u))) reads.row ∙ (uncounted_parts s c u t).arrived) in
    law n o step (ap (λ (z : NodeShape). z.own) reads.shape ∙ own) ∙ come

count_width : (s : Setting) (c : Counts) (u k : ℕ) → length (count_row s c u k) ≡ counts_width (shape_at s u)
count_width s c u k =
    let arms : List ℕ = grid (arms_of s u) s.destinations (λ i d. c (arm_group s u i) d k) in
    let outs : List ℕ = grid (s.outs u) s.destinations (λ j d. c (up_of (s.out_link u j)) d k) in
    let sink : List ℕ = list_below 1 (λ i. arrived_by s c (s.own u) k) in
    omega (
      arith,
      length-append arms (outs ++ sink),
      length-append outs sink,
      length-grid (arms_of s u) s.destinations (λ i d. c (arm_group s u i) d k),
      length-grid (s.outs u) s.destinations (λ j d. c (up_of (s.out_link u j)) d k),
      length-list_below 1 (λ i. arrived_by s c (s.own u) k),
    )

come_kept : (s : Setting) (c : Counts) (own : Option ℕ) (j k : ℕ) → ((d : ℕ) → own ≡ Some d → c (arr_of s) d j ≡ c (arr_of s) d k) → arrived_by s c own j ≡ arrived_by s c own k
come_kept s c None j k same = refl
come_kept s c (Some d) j k same = same d refl

-- a pair whose arms send nothing meets the node step where its counts stand at the end of the slot as at its beginning
pub idle_meets : (s : Setting) (c : Counts) (u t : ℕ) → InputsByPlace → CountsByPlace → NothingMoves → IsSetting s → u < s.nodes → IsIdle s c u t → ((g d : ℕ) → IsOf s u g d → d < s.destinations → c g d (t + 1) ≡ c g d t) → MeetsStep s c u t
idle_meets s c u t inputs counts law v x idle kept =
    let reads : HoldsInputs s c u t (pair_inputs s c u t) = (inputs s c u t).0 in
    let gives : HoldsCounts s c u (t + 1) (pair_outputs s c u (t + 1)) = (counts s c u (t + 1)).0 in
    law (pair_inputs s c u t) (pair_outputs s c u (t + 1)) (λ i d l m. reads.sending i d l m ∙ idle i d l m) (record {
      shape = refl;
      width = count_width s c u (t + 1);
      left = λ i d l m. gives.left i d l m ∙ (kept (arm_group s u i) d (inl (i, l, refl)) m ∙ sym (reads.left i d l m));
      entered = λ j d l m. gives.entered j d l m ∙ (kept (up_of (s.out_link u j)) d (inr (inl (j, l, refl))) m ∙ sym (reads.entered j d l m));
      arrived = gives.arrived ∙ (come_kept s c (s.own u) (t + 1) t (λ d own. kept (arr_of s) d (inr (inr (refl, own))) (v.network.own_is_destination u d x own)) ∙ sym reads.arrived);
    })

-- the counts of a node that are carried on are the same row
pub kept_row : (s : Setting) (c : Counts) (u t : ℕ) → CountsByPlace → IsSetting s → u < s.nodes → ((g d : ℕ) → IsOf s u g d → d < s.destinations → c g d (t + 1) ≡ c g d t) → count_row s c u (t + 1) ≡ count_row s c u t
kept_row s c u t law v x kept =
    let now = (law s c u t).0 in
    (law s c u (t + 1)).1 (pair_outputs s c u t) refl (count_width s c u t) (record {
      left = λ i d l m. now.left i d l m ∙ sym (kept (arm_group s u i) d (inl (i, l, refl)) m);
      entered = λ j d l m. now.entered j d l m ∙ sym (kept (up_of (s.out_link u j)) d (inr (inl (j, l, refl))) m);
      arrived = now.arrived ∙ sym (come_kept s c (s.own u) (t + 1) t (λ d own. kept (arr_of s) d (inr (inr (refl, own))) (v.network.own_is_destination u d x own)));
    })
