-- What has not entered a link or was not produced is not sent.
use Rattle.std.proofs.Common.{◌≡◌, ℕ, ◌+◌, ◌<◌, ◌≤◌, arith}
use Rattle.ltm_units.specs.Sums.{sum_below}
use Rattle.ltm_curve.specs.Counts.{Counts}
use Rattle.ltm_curve.specs.First.{first_units}
use Rattle.ltm_curve.proofs.Firsts.{first_within_holds}
use Rattle.ltm_curve.proofs.Lasts.{row_le}
use Rattle.ltm_loading.specs.Setting.{Setting, IsSetting}
use Rattle.ltm_loading.specs.Groups.{up_of}
use Rattle.ltm_loading.specs.Flows.{link_goal, link_first, link_sending, origin_goal, origin_sending}
use Rattle.ltm_loading.specs.Loading.{IsFront}
use Rattle.ltm_loading.proofs.Front.{link_part, limited_le}
use Rattle.ltm_loading.proofs.Holds.{origin_part}

-- what a link sends of a destination has entered it
pub sends_entered : (s : Setting) (c : Counts) (l t d : ℕ) → IsSetting s → IsFront s c t → l < s.links → d < s.destinations → c (up_of l) d t ≡ 0 → link_sending s c l t d ≡ 0
sends_entered s c l t d v f x m none =
    let first : first_units s.destinations (c (up_of l)) (link_goal s c l t) t d ≤ c (up_of l) d t = first_within_holds s.destinations (c (up_of l)) (link_goal s c l t) t (link_part s c t l v f x) d m in
    omega (arith, first, none, limited_le (s.exit_limit l t) (sum_below s.destinations (link_first s c l t)) (link_first s c l t d))

-- what an origin sends of a destination was produced
pub sends_produced : (s : Setting) (c : Counts) (u t d : ℕ) → IsSetting s → t < s.slots → u < s.nodes → d < s.destinations → s.produced u d s.slots ≡ 0 → origin_sending s c u t d ≡ 0
sends_produced s c u t d v y x m none =
    let first = first_within_holds s.destinations (s.produced u) (origin_goal s c u t) (t + 1) (origin_part s c t u v y x) d m in
    let rise : s.produced u d (t + 1) ≤ s.produced u d s.slots = row_le s.destinations (s.produced u) s.slots (v.produced_rises u x) d (t + 1) s.slots m (omega arith) (omega arith) in
    omega (arith, first, rise, none)
