-- Units that wait in the order in which they entered.
use Rattle.std.specs.Prelude.{◌≡◌, ℕ, ◌+◌, ◌-◌, ◌<◌, ◌≤◌}
use Rattle.ltm_units.specs.Sums.{sum_below}
use Rattle.ltm_curve.specs.Counts.{Counts, total}
use Rattle.ltm_curve.specs.First.{first_units}
use Rattle.ltm_curve.specs.FirstLaws.{IsPart}
use Rattle.ltm_loading.specs.Setting.{Setting}
use Rattle.ltm_loading.specs.Groups.{up_of, down_of, dep_of}
use Rattle.ltm_loading.specs.Flows.{limited, link_goal, link_sending, origin_sending}
use Rattle.ltm_units.specs.Bounds.{most_in_slot}

-- what each destination has of the first units that has not left yet
abbrev pub rest_of : ℕ → (ℕ → ℕ → ℕ) → (ℕ → ℕ) → ℕ → ℕ → ℕ → ℕ
rest_of destinations rows gone goal last d = first_units destinations rows goal last d - gone d

-- the first units of some rows may leave, and each destination has left with no more than its part of them
pub record MayLeave (destinations : ℕ) (rows : ℕ → ℕ → ℕ) (gone : ℕ → ℕ) (goal last : ℕ) : Type 0 where
  pub part : IsPart destinations rows goal last
  pub behind : (d : ℕ) → d < destinations → gone d ≤ first_units destinations rows goal last d
  pub sum : sum_below destinations (rest_of destinations rows gone goal last) + sum_below destinations gone ≡ goal

-- of the first `goal` units of a link, all of which entered by a boundary, so many have left; what the link sends is of
-- the rest
pub record WaitOnLink (s : Setting) (c : Counts) (l t destinations : ℕ) (goal by left : ℕ) : Type 0 where
  pub whole : goal ≡ link_goal s c l t
  pub leave : MayLeave destinations (c (up_of l)) (λ d. c (down_of l) d t) goal by
  pub entered : by ≤ t
  pub gone : left ≡ total destinations (c (down_of l)) t
  pub over : left ≤ goal
  pub few : goal ≤ left + most_in_slot
  pub sends : (d : ℕ) → d < destinations → link_sending s c l t d
      ≡ limited (s.exit_limit l t) (goal - left) (rest_of destinations (c (up_of l)) (λ e. c (down_of l) e t) goal by d)

-- of all that an origin has produced by the end of a slot the first `goal` units may leave, so many have left, and the
-- origin sends the rest
pub record WaitAtOrigin (s : Setting) (c : Counts) (u t : ℕ) (all goal left : ℕ) : Type 0 where
  pub leave : MayLeave s.destinations (s.produced u) (λ d. c (dep_of s u) d t) goal (t + 1)
  pub made : all ≡ total s.destinations (s.produced u) (t + 1)
  pub gone : left ≡ total s.destinations (c (dep_of s u)) t
  pub over : left ≤ goal
  pub sends : (d : ℕ) → origin_sending s c u t d ≡ rest_of s.destinations (s.produced u) (λ e. c (dep_of s u) e t) goal (t + 1) d
