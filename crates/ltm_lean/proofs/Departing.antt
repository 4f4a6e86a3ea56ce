-- What has left the origin of a node, of the destinations of its list.
use Rattle.std.proofs.Common.{◌≡◌, ℕ, ◌+◌, ◌*◌, ◌^◌, ◌<◌, ◌≤◌, List, length, slice_index, arith, ◌∙◌}
use Rattle.ltm_units.specs.Sums.{sum_below}
use Rattle.ltm_units.proofs.Sums.{sum_below-same, sum_below-plus, le-sum_below}
use Rattle.ltm_curve.specs.Counts.{Counts, total}
use Rattle.ltm_loading.specs.Setting.{Setting}
use Rattle.ltm_loading.specs.Groups.{dep_of}
use Rattle.ltm_loading.proofs.Crossing.{totals_small_holds}
use Rattle.ltm_loading.proofs.Front.{earlier_front}
use Rattle.ltm_loading.proofs.Holds.{within_produced_holds}
use Rattle.ltm_standing.proofs.Links.{AreThin, picked, thin_total}
use Rattle.ltm_standing.proofs.Thin.{ascends_before}
use Rattle.ltm_thin.specs.NodeLists.{IsNodeList}
use Rattle.ltm_lean_link.specs.Moved.{IsMoved}
use Rattle.ltm_origin.proofs.Firsts.{none_produced}

-- nothing has left an origin of a destination that is not listed
origin_thin : (s : Setting) (c : Counts) (u : ℕ) (us : List ℕ) → IsNodeList s c u us → AreThin s.destinations (c (dep_of s u)) us s.slots
origin_thin s c u us h = record {
  order = h.order;
  others = λ d k m y out.
      omega (arith, within_produced_holds s c h.setting h.loading u d k h.node m y, none_produced s u d k h.setting h.node m y (h.origin d m out));
}

-- what leaves in a slot, in all and each, and that the numbers stay small
pub record LeavesOrigin (s : Setting) (c : Counts) (u t : ℕ) (us moved : List ℕ) : Type 0 where
  pub all : total s.destinations (c (dep_of s u)) (t + 1) ≡ total s.destinations (c (dep_of s u)) t + sum_below (length us) (slice_index moved)
  pub each : (k : ℕ) → k < length us → c (dep_of s u) (slice_index us k) (t + 1) ≡ c (dep_of s u) (slice_index us k) t + slice_index moved k
  pub small : total s.destinations (c (dep_of s u)) (t + 1) < 2 ^ 32
  pub below : (k : ℕ) → k < length us → c (dep_of s u) (slice_index us k) (t + 1) < 2 ^ 32

pub leaves_origin : (s : Setting) (c : Counts) (u t : ℕ) (us moved : List ℕ) → IsNodeList s c u us → t < s.slots → 0 < s.outs u → IsMoved s c (dep_of s u) t us moved → LeavesOrigin s c u t us moved
leaves_origin s c u t us moved h y some m =
    let g : ℕ → ℕ → ℕ = c (dep_of s u) in
    let thin = origin_thin s c u us h in
    let next : total (length us) (picked g us) (t + 1) ≡ total (length us) (picked g us) t + sum_below (length us) (slice_index moved) =
    sum_below-same (length us) (λ k. picked g us k (t + 1)) (λ k. picked g us k t + slice_index moved k) m.each ∙ sum_below-plus (length us) (λ k. picked g us k t) (slice_index moved) in
    let before : total s.destinations g t ≡ total (length us) (picked g us) t = thin_total s.destinations g us s.slots t thin (omega (arith, y)) in
    let after : total s.destinations g (t + 1) ≡ total (length us) (picked g us) (t + 1) = thin_total s.destinations g us s.slots (t + 1) thin (omega (arith, y)) in
    let few : total s.destinations g (t + 1) ≤ (t + 1) * 32000 = (totals_small_holds s c h.setting (t + 1) (earlier_front s c s.slots (t + 1) h.loading.front (omega (arith, y))) (omega (arith, y))).1 u h.node some in
    let short : s.slots ≤ 10000 = h.setting.small.few_slots in
    let small : total s.destinations g (t + 1) < 2 ^ 32 = omega (arith, few, short, y) in
    record {
      all = omega (arith, next, before, after);
      each = m.each;
      small = small;
      below = λ k x. let within : g (slice_index us k) (t + 1) ≤ total s.destinations g (t + 1) = le-sum_below s.destinations (λ d. g d (t + 1)) (slice_index us k) (ascends_before 0 s.destinations us h.order k x) in omega (arith, within, small);
    }
