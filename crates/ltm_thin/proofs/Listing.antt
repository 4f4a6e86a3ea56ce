-- What a node reads for listed destinations is what it reads for all, thinned.
use Rattle.std.proofs.Common.{◌≡◌, ℕ, ◌+◌, ◌<◌, List, length, slice_index, arith, sym, ◌∙◌, inl, inr}
use Rattle.std.proofs.lemmas.Bool.{cases_lt}
use Rattle.ltm_curve.specs.Counts.{Counts}
use Rattle.ltm_node.specs.Inputs.{Inputs}
use Rattle.ltm_loading.specs.Setting.{Setting}
use Rattle.ltm_loading.specs.Flows.{link_sending, origin_sending}
use Rattle.ltm_loading.specs.Loading.{IsFront}
use Rattle.ltm_loading.specs.Pairs.{arms_of, sending, pair_inputs, pair_outputs}
use Rattle.ltm_loading.proofs.Bounds.{in_range_holds}
use Rattle.ltm_loading.proofs.Front.{earlier_front}
use Rattle.ltm_loading.proofs.Picks.{pick_first, pick_second}
use Rattle.ltm_loading.proofs.Rows.{pair_parts, next_counts}
use Rattle.ltm_loading.proofs.SameRows.{length-pair_row}
use Rattle.ltm_standing.specs.Listed.{NotIn}
use Rattle.ltm_standing.proofs.Thin.{ascends_before}
use Rattle.ltm_thin.specs.Thinned.{IsThinned, MovesListed}
use Rattle.ltm_thin.specs.NodeLists.{IsNodeList, ReadsListed, PairsOverLists, ListedInRange}
use Rattle.ltm_thin.proofs.Moving.{thin_step_holds, thin_is_solvable_holds}
use Rattle.ltm_thin.proofs.Sending.{sends_entered, sends_produced}

front_at : (s : Setting) (c : Counts) (u t : ℕ) (ds : List ℕ) → IsNodeList s c u ds → t < s.slots → IsFront s c t
front_at s c u t ds h l = earlier_front s c s.slots t h.loading.front (omega (arith, l))

-- nothing is sent of a destination that is not listed
sends_listed : (s : Setting) (c : Counts) (u t : ℕ) (ds : List ℕ) → IsNodeList s c u ds → t < s.slots → (i d : ℕ) → i < arms_of s u → d < s.destinations → NotIn ds d → sending s c u t i d ≡ 0
sends_listed s c u t ds h l i d a m out =
    let front : IsFront s c t = front_at s c u t ds h l in
    elim (cases_lt i (s.ins u)) [
      | inl link ↦
          pick_first i (s.ins u) (link_sending s c (s.in_link u i) t d) (origin_sending s c u t d) link
          ∙ sends_entered s c (s.in_link u i) t d h.setting front (h.setting.network.in_link_is_link u i h.node link) m (h.links i d t link m (omega (arith, l)) out)
      | inr own ↦
          pick_second i (s.ins u) (link_sending s c (s.in_link u i) t d) (origin_sending s c u t d) own
          ∙ sends_produced s c u t d h.setting l h.node m (h.origin d m out)
    ]

is_thinned : (s : Setting) (c : Counts) (u t : ℕ) (ds : List ℕ) (m : Inputs) → IsNodeList s c u ds → t < s.slots → ReadsListed s c u t ds m → IsThinned (pair_inputs s c u t) m ds
is_thinned s c u t ds m h l r =
    let parts = pair_parts s c u t in
    let below : (k : ℕ) → k < length ds → slice_index ds k < s.destinations = λ k x. ascends_before 0 s.destinations ds h.order k x in
    record {
      order = h.order;
      long = length-pair_row s c u t ∙ omega arith;
      thin = r.long;
      arms = r.arms;
      outs = r.outs;
      destinations = r.destinations;
      by_turn = r.by_turn;
      own = r.own;
      others = λ i d a y out. parts.sending i d a y ∙ sends_listed s c u t ds h l i d a y out;
      sending = λ i k a x. r.sends i k a x ∙ sym (parts.sending i (slice_index ds k) a (below k x));
      supply = λ j y. r.takes j y ∙ sym (parts.supply j y);
      capacity = λ i a. r.capacities i a ∙ sym (parts.capacity i a);
      weight = λ k j x y. r.weights k j x y ∙ sym (parts.weight (slice_index ds k) j (below k x) y);
      left = r.none_left;
      entered = r.none_entered;
      arrived = r.none_arrived;
    }

pub pairs_over_lists_hold : PairsOverLists
pairs_over_lists_hold s c u t ds m moves h l r step =
    let parts = pair_parts s c u t in
    let next = next_counts s c u (t + 1) in
    let below : (k : ℕ) → k < length ds → slice_index ds k < s.destinations = λ k x. ascends_before 0 s.destinations ds h.order k x in
    let moved : MovesListed (pair_inputs s c u t) ds (pair_outputs s c u (t + 1)) moves =
    thin_step_holds (pair_inputs s c u t) m ds (pair_outputs s c u (t + 1)) moves (is_thinned s c u t ds m h l r) (in_range_holds s c t u h.setting (front_at s c u t ds h l) l h.node) (h.loading.front.steps u t h.node l) step in
    record {
      left = λ i k a x. omega (arith, next.left i (slice_index ds k) a (below k x), parts.left i (slice_index ds k) a (below k x), moved.left i k a x);
      entered = λ j k y x. omega (arith, next.entered j (slice_index ds k) y (below k x), parts.entered j (slice_index ds k) y (below k x), moved.entered j k y x);
      arrived = omega (arith, next.arrived, parts.arrived, moved.arrived);
      left_others = λ i d a y out. omega (arith, next.left i d a y, parts.left i d a y, moved.left_others i d a y out);
      entered_others = λ j d y x out. omega (arith, next.entered j d y x, parts.entered j d y x, moved.entered_others j d y x out);
    }

pub listed_in_range_holds : ListedInRange
listed_in_range_holds s c u t ds m h l r =
    thin_is_solvable_holds (pair_inputs s c u t) m ds (is_thinned s c u t ds m h l r) (in_range_holds s c t u h.setting (front_at s c u t ds h l) l h.node)
