-- What the arms of a node send of the destinations of its list, and what moves there.
use Rattle.std.proofs.Common.{◌≡◌, ℕ, ◌+◌, ◌*◌, ◌<◌, ◌≤◌, List, length, slice_index, arith, sym, ap, subst, ◌∙◌, inl, inr}
use Rattle.std.proofs.lemmas.Bool.{cases_lt}
use Rattle.ltm_units.specs.Sums.{sum_below}
use Rattle.ltm_units.proofs.Sums.{sum_below-same}
use Rattle.ltm_curve.specs.Counts.{Counts, total}
use Rattle.ltm_node.specs.Demands.{sent}
use Rattle.ltm_node.specs.Inputs.{sending as node_sending, capacity}
use Rattle.ltm_node.specs.Outputs.{Outputs, left_after, entered_after}
use Rattle.ltm_node.specs.Solvable.{IsSolvable}
use Rattle.ltm_loading.specs.Setting.{Setting}
use Rattle.ltm_loading.specs.Flows.{link_sending, origin_sending}
use Rattle.ltm_loading.specs.Groups.{up_of, down_of, dep_of}
use Rattle.ltm_loading.specs.Loading.{IsFront}
use Rattle.ltm_loading.specs.Pairs.{arms_of, sending, arm_group, arm_capacity, pair_inputs}
use Rattle.ltm_loading.proofs.Bounds.{in_range_holds}
use Rattle.ltm_loading.proofs.Front.{earlier_front}
use Rattle.ltm_loading.proofs.Picks.{pick_first, pick_second}
use Rattle.ltm_loading.proofs.Rows.{pair_parts}
use Rattle.ltm_standing.specs.Listed.{NotIn}
use Rattle.ltm_standing.proofs.Links.{AreThin, picked, thin_total}
use Rattle.ltm_thin.specs.NodeLists.{IsNodeList, MovesInLoading}
use Rattle.ltm_thin.proofs.Sending.{sends_entered, sends_produced}
use Rattle.ltm_lean_node.specs.Rows.{AreSent}
use Rattle.ltm_lean_link.specs.Moved.{IsMoved}

-- nothing is sent of a destination that is not listed
pub others_unsent : (s : Setting) (c : Counts) (u t : ℕ) (us : List ℕ) → IsNodeList s c u us → t < s.slots → (i d : ℕ) → i < arms_of s u → d < s.destinations → NotIn us d → sending s c u t i d ≡ 0
others_unsent s c u t us h l i d a m out =
    let front : IsFront s c t = earlier_front s c s.slots t h.loading.front (omega (arith, l)) in
    elim (cases_lt i (s.ins u)) [
      | inl link ↦
          pick_first i (s.ins u) (link_sending s c (s.in_link u i) t d) (origin_sending s c u t d) link
          ∙ sends_entered s c (s.in_link u i) t d h.setting front (h.setting.network.in_link_is_link u i h.node link) m (h.links i d t link m (omega (arith, l)) out)
      | inr own ↦
          pick_second i (s.ins u) (link_sending s c (s.in_link u i) t d) (origin_sending s c u t d) own
          ∙ sends_produced s c u t d h.setting l h.node m (h.origin d m out)
    ]

-- what an arm sends of the list is within its capacity
pub sent_within : (s : Setting) (c : Counts) (u t : ℕ) (us row : List ℕ) → IsNodeList s c u us → t < s.slots → AreSent s c u t us row → (i : ℕ) → i < arms_of s u →
    sum_below (length us) (λ k. slice_index row (i * length us + k)) ≤ arm_capacity s u t i
sent_within s c u t us row h l sent i a =
    let parts = pair_parts s c u t in
    let rows : ℕ → ℕ → ℕ = λ d k. sending s c u t i d in
    let thin : AreThin s.destinations rows us t = record { order = h.order; others = λ d k m y out. others_unsent s c u t us h l i d a m out } in
    let range : IsSolvable (pair_inputs s c u t) = in_range_holds s c t u h.setting (earlier_front s c s.slots t h.loading.front (omega (arith, l))) l h.node in
    let listed : sum_below (length us) (λ k. slice_index row (i * length us + k)) ≡ total (length us) (picked rows us) t = sum_below-same (length us) (λ k. slice_index row (i * length us + k)) (λ k. sending s c u t i (slice_index us k)) (λ k x. sent i k a x) in
    let every : total s.destinations rows t ≡ total (length us) (picked rows us) t = thin_total s.destinations rows us t t thin (omega arith) in
    let all : sum_below s.destinations (node_sending (pair_inputs s c u t) i) ≡ total s.destinations rows t = sum_below-same s.destinations (node_sending (pair_inputs s c u t) i) (sending s c u t i) (λ d m. parts.sending i d a m) in
    let within : sum_below s.destinations (node_sending (pair_inputs s c u t) i) ≤ capacity (pair_inputs s c u t) i = range.within_capacity i a in
    omega (arith, listed, every, all, within, parts.capacity i a)

-- the arms send what the links into the node and its origin do
pub arms_sent : (s : Setting) (c : Counts) (u t : ℕ) (us row : List ℕ) → ((i k : ℕ) → i < s.ins u → k < length us → slice_index row (i * length us + k) ≡ link_sending s c (s.in_link u i) t (slice_index us k))
    → (0 < s.outs u → (k : ℕ) → k < length us → slice_index row (s.ins u * length us + k) ≡ origin_sending s c u t (slice_index us k)) → AreSent s c u t us row
arms_sent s c u t us row links origin i k a x =
    elim (cases_lt i (s.ins u)) [
      | inl link ↦ links i k link x ∙ sym (pick_first i (s.ins u) (link_sending s c (s.in_link u i) t (slice_index us k)) (origin_sending s c u t (slice_index us k)) link)
      | inr own ↦
          let last : i ≡ s.ins u = omega (arith, a, own) in
          ap (λ (z : ℕ). slice_index row (z * length us + k)) last
          ∙ (origin (omega (arith, a, own)) k x ∙ sym (pick_second i (s.ins u) (link_sending s c (s.in_link u i) t (slice_index us k)) (origin_sending s c u t (slice_index us k)) own))
    ]

-- what moves at a node is what leaves the links into it and its origin, and what enters the links out of it
pub moved_in : (s : Setting) (c : Counts) (u t i : ℕ) (us moved : List ℕ) (o : Outputs) → MovesInLoading s c u t us o → i < s.ins u → ((k : ℕ) → k < length us → slice_index moved k ≡ left_after o i k) → IsMoved s c (down_of (s.in_link u i)) t us moved
moved_in s c u t i us moved o h l row =
    let group : arm_group s u i ≡ down_of (s.in_link u i) = pick_first i (s.ins u) (down_of (s.in_link u i)) (dep_of s u) l in
    subst (λ (g : ℕ). IsMoved s c g t us moved) group (record {
      each = λ k x. h.left i k (omega (arith, l)) x ∙ ap (λ (z : ℕ). c (arm_group s u i) (slice_index us k) t + z) (sym (row k x));
      others = λ d m out. h.left_others i d (omega (arith, l)) m out;
    })

pub moved_origin : (s : Setting) (c : Counts) (u t : ℕ) (us moved : List ℕ) (o : Outputs) → MovesInLoading s c u t us o → 0 < s.outs u → ((k : ℕ) → k < length us → slice_index moved k ≡ left_after o (s.ins u) k) → IsMoved s c (dep_of s u) t us moved
moved_origin s c u t us moved o h l row =
    let group : arm_group s u (s.ins u) ≡ dep_of s u = pick_second (s.ins u) (s.ins u) (down_of (s.in_link u (s.ins u))) (dep_of s u) (omega arith) in
    subst (λ (g : ℕ). IsMoved s c g t us moved) group (record {
      each = λ k x. h.left (s.ins u) k (omega (arith, l)) x ∙ ap (λ (z : ℕ). c (arm_group s u (s.ins u)) (slice_index us k) t + z) (sym (row k x));
      others = λ d m out. h.left_others (s.ins u) d (omega (arith, l)) m out;
    })

pub moved_out : (s : Setting) (c : Counts) (u t j : ℕ) (us moved : List ℕ) (o : Outputs) → MovesInLoading s c u t us o → j < s.outs u → ((k : ℕ) → k < length us → slice_index moved k ≡ entered_after o j k) → IsMoved s c (up_of (s.out_link u j)) t us moved
moved_out s c u t j us moved o h l row = record {
  each = λ k x. h.entered j k l x ∙ ap (λ (z : ℕ). c (up_of (s.out_link u j)) (slice_index us k) t + z) (sym (row k x));
  others = λ d m out. h.entered_others j d l m out;
}
