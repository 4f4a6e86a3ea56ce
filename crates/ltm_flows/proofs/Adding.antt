-- What moves is added to the counts of a node, group after group.
use Rattle.std.proofs.Common.{◌≡◌, ◌≢◌, ℕ, ◌+◌, ◌*◌, ◌^◌, ◌<◌, ◌≤◌, List, slice_index, Option, Some, None, arith, refl, ap, sym, subst, ◌∙◌}
use Rattle.ltm_curve.specs.Counts.{Counts}
use Rattle.ltm_curve.specs.First.{list_below}
use Rattle.ltm_curve.proofs.Lists.{length-list_below, index-list_below}
use Rattle.ltm_curve.specs.declared.curves.Curves.{Curves}
use Rattle.ltm_curve.specs.Table.{destinations_of, counts_of, SameShape, SetsRow, AddsRow}
use Rattle.ltm_node.specs.declared.shape.NodeShape.{NodeShape}
use Rattle.ltm_node.specs.Shape.{counts_width}
use Rattle.ltm_node.specs.Outputs.{Outputs, left_after, left_after_place, entered_after, entered_after_place, arrived_after, arrived_after_place}
use Rattle.ltm_loading.specs.Setting.{Setting, IsSetting}
use Rattle.ltm_loading.specs.Groups.{arr_of, groups}
use Rattle.ltm_loading.specs.Pairs.{arms_of, arm_group, arrived_by, shape_at, count_row}
use Rattle.ltm_loading.specs.NextPair.{Applies}
use Rattle.ltm_loading.specs.ByPlace.{CountsByPlace}
use Rattle.ltm_loading.specs.Uncounted.{moved_on, outputs_at}
use Rattle.ltm_loading.proofs.Uncounted.{moved_counts}
use Rattle.ltm_flows.specs.Applying.{out_group, with_moves, SetsGroups, SetsSink}
use Rattle.ltm_loading.specs.Shaped.{IsShaped}
use Rattle.ltm_flows.proofs.Writing.{sets_next, out_there, arm_not_out, arm_not_come, applies_holds}

pub shaped_by : (s : Setting) (now new : Curves) → IsShaped s now → SameShape new now → IsShaped s new
shaped_by s now new shape same = record {
  same_groups = same.groups ∙ shape.same_groups;
  same_destinations = same.destinations ∙ shape.same_destinations;
  same_slots = same.slots ∙ shape.same_slots;
}

-- the counts of a group that is not yet written are the old ones
pub still : (s : Setting) (k n : ℕ) (group : ℕ → ℕ) (value : ℕ → ℕ → ℕ) (old now : Counts) (g d : ℕ) → g < groups s → g ≡ group n → ((i : ℕ) → i < n → group i ≢ group n) → d < s.destinations → SetsGroups s k n group value old now → now g d k ≡ old (group n) d k
still s k n group value old now g d g_in at apart l done = done.others g d g_in l (λ i m e. apart i m (e ∙ at)) ∙ ap (λ (z : ℕ). old z d k) at

-- one group more
pub adds_next : (s : Setting) (k n : ℕ) (group : ℕ → ℕ) (moves : ℕ → ℕ → ℕ) (old : Counts) (now new : Curves) (g : ℕ) (row : List ℕ) → k ≤ s.slots → g < groups s → g ≡ group n → ((i : ℕ) → i < n → group i < groups s) → ((i : ℕ) → i < n → group i ≢ group n) →
    ((d : ℕ) → d < s.destinations → slice_index row d ≡ moves n d) → IsShaped s now → SetsGroups s k n group (with_moves old k group moves) old (counts_of now) → AddsRow now new g k row → SetsGroups s k (n + 1) group (with_moves old k group moves) old (counts_of new)
adds_next s k n group moves old now new g row k_in g_in at there apart given shape done add =
    let sum : ℕ → ℕ = λ d. counts_of now g d k + slice_index row d in
    let sets : SetsRow now new g k (list_below (destinations_of now) (λ d. counts_of now g d k + slice_index row d)) = record {
      shape = add.shape;
      here = λ d l. add.here d l ∙ sym (index-list_below (destinations_of now) (λ d. counts_of now g d k + slice_index row d) d l);
      others = add.others;
    } in
    sets_next s k n group (with_moves old k group moves) old now new g (list_below (destinations_of now) sum) k_in g_in at there apart
    (λ d m. omega (
      arith,
      index-list_below (destinations_of now) sum d (omega (arith, shape.same_destinations)),
      still s k n group (with_moves old k group moves) old (counts_of now) g d g_in at apart m done,
      given d m,
    ))
    shape done sets

-- a sum is small where that of the old counts is
pub sum_small : (s : Setting) (k n : ℕ) (group : ℕ → ℕ) (moves : ℕ → ℕ → ℕ) (old now : Counts) (g d v : ℕ) → g < groups s → g ≡ group n → ((i : ℕ) → i < n → group i ≢ group n) → d < s.destinations → SetsGroups s k n group (with_moves old k group moves) old now →
    v ≡ moves n d → with_moves old k group moves n d < 2 ^ 31 → now g d k + v < 2 ^ 31
sum_small s k n group moves old now g d v g_in at apart l done is small = omega (arith, still s k n group (with_moves old k group moves) old now g d g_in at apart l done)

-- groups that are given the same values
sets_as : (s : Setting) (k n : ℕ) (group : ℕ → ℕ) (v w : ℕ → ℕ → ℕ) (old new : Counts) → ((i d : ℕ) → i < n → d < s.destinations → v i d ≡ w i d) → SetsGroups s k n group v old new → SetsGroups s k n group w old new
sets_as s k n group v w old new same sets = record { here = λ i d l m. sets.here i d l m ∙ same i d l m; later = sets.later; others = sets.others }

-- what moves, by the place in the node's shape
left_at : (s : Setting) (u : ℕ) (m : Outputs) (i d : ℕ) → m.shape ≡ shape_at s u → left_after m i d ≡ slice_index m.row (i * s.destinations + d)
left_at s u m i d e = ap (λ (z : NodeShape). slice_index m.row (left_after_place z i d)) e

entered_at : (s : Setting) (u : ℕ) (m : Outputs) (j d : ℕ) → m.shape ≡ shape_at s u → entered_after m j d ≡ slice_index m.row (arms_of s u * s.destinations + (j * s.destinations + d))
entered_at s u m j d e = ap (λ (z : NodeShape). slice_index m.row (entered_after_place z j d)) e

arrived_at : (s : Setting) (u : ℕ) (m : Outputs) → m.shape ≡ shape_at s u → arrived_after m ≡ slice_index m.row (arms_of s u * s.destinations + s.outs u * s.destinations)
arrived_at s u m e = ap (λ (z : NodeShape). slice_index m.row (arrived_after_place z)) e

-- the numbers that the groups get
pub arm_number : (s : Setting) (c : Counts) (u k : ℕ) (m : Outputs) (i d : ℕ) → m.shape ≡ shape_at s u → i < arms_of s u → d < s.destinations →
    with_moves c k (arm_group s u) (left_after m) i d ≡ left_after (outputs_at s u (moved_on s c u k m.row)) i d
arm_number s c u k m i d e l x = omega (arith, left_at s u m i d e, (moved_counts s c u k m.row).left i d l x)

pub out_number : (s : Setting) (c : Counts) (u k : ℕ) (m : Outputs) (j d : ℕ) → m.shape ≡ shape_at s u → j < s.outs u → d < s.destinations →
    with_moves c k (out_group s u) (entered_after m) j d ≡ entered_after (outputs_at s u (moved_on s c u k m.row)) j d
out_number s c u k m j d e l x = omega (arith, entered_at s u m j d e, (moved_counts s c u k m.row).entered j d l x)

pub sink_number : (s : Setting) (c : Counts) (u k : ℕ) (m : Outputs) → m.shape ≡ shape_at s u →
    arrived_by s c (s.own u) k + arrived_after m ≡ arrived_after (outputs_at s u (moved_on s c u k m.row))
sink_number s c u k m e = omega (arith, arrived_at s u m e, (moved_counts s c u k m.row).arrived)

-- the counts of the out-links once those of the arms are written, and what has arrived once both are
pub out_still : (s : Setting) (u k : ℕ) (value : ℕ → ℕ → ℕ) (old left : Counts) (j d : ℕ) → IsSetting s → u < s.nodes → j < s.outs u → d < s.destinations → SetsGroups s k (arms_of s u) (arm_group s u) value old left → left (out_group s u j) d k ≡ old (out_group s u j) d k
out_still s u k value old left j d v x l m arms = arms.others (out_group s u j) d (out_there s u j v x l) m (λ i y e. arm_not_out s u i j v x l (sym e))

come_still : (s : Setting) (a b : Counts) (own : Option ℕ) (k : ℕ) → ((d : ℕ) → own ≡ Some d → a (arr_of s) d k ≡ b (arr_of s) d k) → arrived_by s a own k ≡ arrived_by s b own k
come_still s a b None k same = refl
come_still s a b (Some d) k same = same d refl

pub sink_still : (s : Setting) (u k : ℕ) (v w : ℕ → ℕ → ℕ) (old left entered : Counts) → IsSetting s → u < s.nodes → SetsGroups s k (arms_of s u) (arm_group s u) v old left → SetsGroups s k (s.outs u) (out_group s u) w left entered →
    arrived_by s entered (s.own u) k ≡ arrived_by s old (s.own u) k
sink_still s u k v w old left entered set x arms outs =
    come_still s entered old (s.own u) k (λ d own.
    let place : d < s.destinations = set.network.own_is_destination u d x own in
    outs.others (arr_of s) d (omega arith) place (λ j l e. omega (arith, e, set.network.out_link_is_link u j x l))
    ∙ arms.others (arr_of s) d (omega arith) place (λ i l e. arm_not_come s u i set x l (sym e)))

-- arms, out-links and sink are all that a node sets
pub adds_holds : (s : Setting) (u k : ℕ) (m : Outputs) (old left entered new : Counts) → CountsByPlace → IsSetting s → u < s.nodes → m.shape ≡ shape_at s u →
    SetsGroups s k (arms_of s u) (arm_group s u) (with_moves old k (arm_group s u) (left_after m)) old left → SetsGroups s k (s.outs u) (out_group s u) (with_moves left k (out_group s u) (entered_after m)) left entered →
    SetsSink s u k (arrived_by s entered (s.own u) k + arrived_after m) entered new → Applies s u k (moved_on s old u k m.row) old new
adds_holds s u k m old left entered new law v x e arms outs sink =
    let o : Outputs = outputs_at s u (moved_on s old u k m.row) in
    let come : arrived_by s entered (s.own u) k + arrived_after m ≡ arrived_after (outputs_at s u (moved_on s old u k m.row)) =
    omega (arith, sink_still s u k (with_moves old k (arm_group s u) (left_after m)) (with_moves left k (out_group s u) (entered_after m)) old left entered v x arms outs, sink_number s old u k m e) in
    applies_holds s u k o old left entered new law v x refl (length-list_below (counts_width (shape_at s u)) (λ i. slice_index (count_row s old u k) i + slice_index m.row i))
    (sets_as s k (arms_of s u) (arm_group s u) (with_moves old k (arm_group s u) (left_after m)) (left_after o) old left (λ i d l y. arm_number s old u k m i d e l y) arms)
    (sets_as s k (s.outs u) (out_group s u) (with_moves left k (out_group s u) (entered_after m)) (entered_after o) left entered
    (λ j d l y. omega (arith, out_still s u k (with_moves old k (arm_group s u) (left_after m)) old left j d v x l y arms, out_number s old u k m j d e l y)) outs)
    (subst (λ (z : ℕ). SetsSink s u k z entered new) come sink)
