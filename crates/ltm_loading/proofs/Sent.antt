-- No arm sends more than its capacity.
use Rattle.std.proofs.Common.{◌≡◌, ℕ, ◌+◌, ◌<◌, ◌≤◌, arith, inl, inr}
use Rattle.std.proofs.lemmas.Bool.{cases_lt}
use Rattle.ltm_units.specs.Sums.{sum_below}
use Rattle.ltm_units.proofs.Sums.{sum_below-le, sum_below-same}
use Rattle.ltm_curve.specs.Counts.{Counts}
use Rattle.ltm_curve.specs.First.{first_units}
use Rattle.ltm_curve.proofs.Lists.{sum_below-minus}
use Rattle.ltm_curve.proofs.Firsts.{first_sums_holds}
use Rattle.ltm_loading.specs.Setting.{Setting, IsSetting}
use Rattle.ltm_loading.specs.Groups.{dep_of}
use Rattle.ltm_loading.specs.Flows.{link_first, link_sending, origin_goal, origin_sending}
use Rattle.ltm_loading.specs.Pairs.{arms_of, sending, arm_capacity}
use Rattle.ltm_loading.specs.Loading.{IsFront}
use Rattle.ltm_loading.proofs.Picks.{pick_first, pick_second}
use Rattle.ltm_loading.proofs.Front.{limited_le}
use Rattle.ltm_loading.proofs.Holds.{link_first_sum, origin_part, origin_behind}

-- what an arm sends is at most its capacity
pub link_sent : (s : Setting) (c : Counts) (t l : ℕ) → IsSetting s → IsFront s c t → l < s.links → sum_below s.destinations (link_sending s c l t) ≤ s.capacity l t
link_sent s c t l v f x =
    omega (
      arith,
      link_first_sum s c t l v f x,
      sum_below-le s.destinations (link_sending s c l t) (link_first s c l t) (λ d m. limited_le (s.exit_limit l t) (sum_below s.destinations (link_first s c l t)) (link_first s c l t d)),
    )

pub origin_sent : (s : Setting) (c : Counts) (t u : ℕ) → IsSetting s → IsFront s c t → t < s.slots → u < s.nodes → 0 < s.outs u → sum_below s.destinations (origin_sending s c u t) ≤ s.origin_capacity
origin_sent s c t u v f y x some =
    omega (
      arith,
      sum_below-minus s.destinations (λ d. c (dep_of s u) d t) (first_units s.destinations (s.produced u) (origin_goal s c u t) (t + 1)) (λ d m. origin_behind s c t u d v f y x some m),
      first_sums_holds s.destinations (s.produced u) (origin_goal s c u t) (t + 1) (origin_part s c t u v y x),
    )

pub arm_sent : (s : Setting) (c : Counts) (t u i : ℕ) → IsSetting s → IsFront s c t → t < s.slots → u < s.nodes → i < arms_of s u → sum_below s.destinations (sending s c u t i) ≤ arm_capacity s u t i
arm_sent s c t u i v f y x z =
    elim (cases_lt i (s.ins u)) [
      | inl link ↦
          let same : sum_below s.destinations (sending s c u t i) ≡ sum_below s.destinations (link_sending s c (s.in_link u i) t) =
          sum_below-same s.destinations (sending s c u t i) (link_sending s c (s.in_link u i) t) (λ d m. pick_first i (s.ins u) (link_sending s c (s.in_link u i) t d) (origin_sending s c u t d) link) in
          let cap : arm_capacity s u t i ≡ s.capacity (s.in_link u i) t = pick_first i (s.ins u) (s.capacity (s.in_link u i) t) s.origin_capacity link in
          omega (arith, link_sent s c t (s.in_link u i) v f (v.network.in_link_is_link u i x link))
      | inr origin ↦
          let same : sum_below s.destinations (sending s c u t i) ≡ sum_below s.destinations (origin_sending s c u t) =
          sum_below-same s.destinations (sending s c u t i) (origin_sending s c u t) (λ d m. pick_second i (s.ins u) (link_sending s c (s.in_link u i) t d) (origin_sending s c u t d) origin) in
          let cap : arm_capacity s u t i ≡ s.origin_capacity = pick_second i (s.ins u) (s.capacity (s.in_link u i) t) s.origin_capacity origin in
          omega (arith, origin_sent s c t u v f y x (omega arith))
    ]

pub some_arm_capacity : (s : Setting) (u t i : ℕ) → IsSetting s → u < s.nodes → 0 < arm_capacity s u t i
some_arm_capacity s u t i v x =
    elim (cases_lt i (s.ins u)) [
      | inl link ↦ omega (arith, pick_first i (s.ins u) (s.capacity (s.in_link u i) t) s.origin_capacity link, v.some_capacity (s.in_link u i) t (v.network.in_link_is_link u i x link))
      | inr origin ↦ omega (arith, pick_second i (s.ins u) (s.capacity (s.in_link u i) t) s.origin_capacity origin, v.some_origin_capacity)
    ]
