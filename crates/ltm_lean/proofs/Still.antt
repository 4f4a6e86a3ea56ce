-- Where no arm of a node sends anything, nothing moves there.
use Rattle.std.proofs.Common.{◌≡◌, ℕ, ◌+◌, ◌*◌, ◌<◌, List, ◌++◌, length, slice_index, arith, refl, sym, ap, ◌∙◌, inl, inr, length-append}
use Rattle.std.proofs.lemmas.Nat.{mul-add-lt}
use Rattle.ltm_curve.specs.Counts.{Counts}
use Rattle.ltm_curve.specs.First.{list_below}
use Rattle.ltm_curve.proofs.Lists.{length-list_below}
use Rattle.ltm_node.specs.Shape.{counts_width}
use Rattle.ltm_node.specs.Laws.{NothingIsSent, StaysAsItWas}
use Rattle.ltm_node.specs.Solvable.{IsSolvable}
use Rattle.ltm_node.proofs.Stays.{nothing_moves_holds}
use Rattle.ltm_node.proofs.StepLaws.{one_step_holds}
use Rattle.ltm_loading.specs.Setting.{Setting}
use Rattle.ltm_loading.specs.Groups.{up_of}
use Rattle.ltm_loading.specs.Pairs.{grid, arms_of, sending, arm_group, arrived_by, shape_at, pair_inputs, pair_outputs, count_row}
use Rattle.ltm_loading.proofs.Bounds.{in_range_holds}
use Rattle.ltm_loading.proofs.Front.{earlier_front}
use Rattle.ltm_loading.proofs.Rows.{length-grid, pair_parts, next_counts}
use Rattle.ltm_thin.specs.NodeLists.{IsNodeList}
use Rattle.ltm_lean_node.specs.Rows.{AreSent}
use Rattle.ltm_lean_link.proofs.Scattered.{place_or_none}
use Rattle.ltm_lean.specs.Still.{IsStill}
use Rattle.ltm_lean.proofs.Arms.{others_unsent}

-- nothing is sent of any destination, where nothing is of those of the list
none_sent : (s : Setting) (c : Counts) (u t : ℕ) (us row : List ℕ) → IsNodeList s c u us → t < s.slots → AreSent s c u t us row → ((i k : ℕ) → i < arms_of s u → k < length us → slice_index row (i * length us + k) ≡ 0)
    → (i d : ℕ) → i < arms_of s u → d < s.destinations → sending s c u t i d ≡ 0
none_sent s c u t us row h l sent zeros i d a m =
    elim (place_or_none us d) [
      | inl p ↦ ap (sending s c u t i) (sym p.there) ∙ (sym (sent i p.place a p.within) ∙ zeros i p.place a p.within)
      | inr out ↦ others_unsent s c u t us h l i d a m out
    ]

count_width : (s : Setting) (c : Counts) (u k : ℕ) → length (count_row s c u k) ≡ counts_width (shape_at s u)
count_width s c u k =
    let arms : List ℕ = grid (arms_of s u) s.destinations (λ i d. c (arm_group s u i) d k) in
    let outs : List ℕ = grid (s.outs u) s.destinations (λ j d. c (up_of (s.out_link u j)) d k) in
    let sink : List ℕ = list_below 1 (λ i. arrived_by s c (s.own u) k) in
    omega (
      arith,
      length-append arms (outs ++ sink),
      length-append outs sink,
      length-grid (arms_of s u) s.destinations (λ i d. c (arm_group s u i) d k),
      length-grid (s.outs u) s.destinations (λ j d. c (up_of (s.out_link u j)) d k),
      length-list_below 1 (λ i. arrived_by s c (s.own u) k),
    )

pub still : (s : Setting) (c : Counts) (u t : ℕ) (us row : List ℕ) → IsNodeList s c u us → t < s.slots → AreSent s c u t us row → ((i k : ℕ) → i < arms_of s u → k < length us → slice_index row (i * length us + k) ≡ 0) → IsStill s c u t
still s c u t us row h l sent zeros =
    let reads = pair_parts s c u t in
    let now = next_counts s c u t in
    let next = next_counts s c u (t + 1) in
    let none : NothingIsSent (pair_inputs s c u t) = λ i d a m. reads.sending i d a m ∙ none_sent s c u t us row h l sent zeros i d a m in
    let stays : StaysAsItWas (pair_inputs s c u t) (pair_outputs s c u t) = record {
      shape = refl;
      width = count_width s c u t;
      left = λ i d a m. now.left i d a m ∙ sym (reads.left i d a m);
      entered = λ j d a m. now.entered j d a m ∙ sym (reads.entered j d a m);
      arrived = now.arrived ∙ sym reads.arrived;
    } in
    let range : IsSolvable (pair_inputs s c u t) = in_range_holds s c t u h.setting (earlier_front s c s.slots t h.loading.front (omega (arith, l))) l h.node in
    let same : count_row s c u (t + 1) ≡ count_row s c u t =
    one_step_holds (pair_inputs s c u t) range (pair_outputs s c u (t + 1)) (pair_outputs s c u t) (h.loading.front.steps u t h.node l) (nothing_moves_holds (pair_inputs s c u t) (pair_outputs s c u t) none stays) in
    record {
      left = λ i d a m. sym (next.left i d a m) ∙ (ap (λ (xs : List ℕ). slice_index xs (i * s.destinations + d)) same ∙ now.left i d a m);
      entered = λ j d a m.
          sym (next.entered j d a m)
          ∙ (ap (λ (xs : List ℕ). slice_index xs (arms_of s u * s.destinations + (j * s.destinations + d))) same ∙ now.entered j d a m);
    }

-- what the arms send is all 0
pub zeros : (arms many : ℕ) (row : List ℕ) → ((k : ℕ) → k < arms * many → slice_index row k ≡ 0) → (i k : ℕ) → i < arms → k < many → slice_index row (i * many + k) ≡ 0
zeros arms many row h i k a l = h (i * many + k) (omega (arith, mul-add-lt i many k arms a l))
