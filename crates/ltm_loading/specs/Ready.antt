-- What holds at the front of everything that a pair's inputs are made of: no difference in it is below 0.
use Rattle.std.specs.Prelude.{◌≡◌, ℕ, ◌+◌, ◌<◌, ◌≤◌}
use Rattle.ltm_units.specs.Sums.{sum_below}
use Rattle.ltm_curve.specs.Counts.{Counts, total}
use Rattle.ltm_curve.specs.First.{first_units, RowsRise}
use Rattle.ltm_curve.specs.FirstLaws.{IsPart}
use Rattle.ltm_loading.specs.Setting.{Setting, IsSetting}
use Rattle.ltm_loading.specs.Groups.{up_of, down_of, dep_of}
use Rattle.ltm_loading.specs.Flows.{earlier, link_goal, link_first, origin_goal, origin_sending}
use Rattle.ltm_loading.specs.Loading.{IsFront}

-- a link: what may leave it is a part of what has entered, each destination has left with no more than its share of that
-- part, and the exits of a wave ago have made room for what has entered
pub record IsLinkReady (s : Setting) (c : Counts) (l t : ℕ) : Type 0 where
  pub entered_rises : RowsRise s.destinations (c (up_of l)) t
  pub left_rises : RowsRise s.destinations (c (down_of l)) t
  pub part : IsPart s.destinations (c (up_of l)) (link_goal s c l t) t
  pub behind : (d : ℕ) → d < s.destinations → c (down_of l) d t ≤ first_units s.destinations (c (up_of l)) (link_goal s c l t) t d
  pub sum : sum_below s.destinations (link_first s c l t) + total s.destinations (c (down_of l)) t ≡ link_goal s c l t
  pub room : total s.destinations (c (up_of l)) t ≤ earlier (total s.destinations (c (down_of l))) s.step t (s.wave_time l) + s.storage l

abbrev pub LinksAreReady : Type 0
LinksAreReady = (s : Setting) (c : Counts) (l t : ℕ) → IsSetting s → IsFront s c t → l < s.links → IsLinkReady s c l t

-- an origin: what may leave it is a part of what was produced, and each destination has left with no more than its share
-- of that part
pub record IsOriginReady (s : Setting) (c : Counts) (u t : ℕ) : Type 0 where
  pub part : IsPart s.destinations (s.produced u) (origin_goal s c u t) (t + 1)
  pub behind : (d : ℕ) → d < s.destinations → c (dep_of s u) d t ≤ first_units s.destinations (s.produced u) (origin_goal s c u t) (t + 1) d
  pub sum : sum_below s.destinations (origin_sending s c u t) + total s.destinations (c (dep_of s u)) t ≡ origin_goal s c u t

abbrev pub OriginsAreReady : Type 0
OriginsAreReady =
    (s : Setting) (c : Counts) (u t : ℕ) → IsSetting s → IsFront s c t → t < s.slots → u < s.nodes → 0 < s.outs u → IsOriginReady s c u t
