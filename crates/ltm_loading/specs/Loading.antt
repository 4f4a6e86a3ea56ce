-- What a loading is: a condition on finished counts, without order or rounds.
use Rattle.std.specs.Prelude.{◌≡◌, ℕ, ◌<◌, ◌≤◌}
use Rattle.ltm_curve.specs.Counts.{Counts}
use Rattle.ltm_loading.specs.Setting.{Setting}
use Rattle.ltm_loading.specs.Groups.{dep_of, groups}
use Rattle.ltm_loading.specs.Pairs.{MeetsStep}

-- the front of a loading up to a slot: nothing is counted at the start, and each pair of an earlier slot meets the node
-- step
pub record IsFront (s : Setting) (c : Counts) (slot : ℕ) : Type 0 where
  pub empty : (g d : ℕ) → g < groups s → d < s.destinations → c g d 0 ≡ 0
  pub steps : (u t : ℕ) → u < s.nodes → t < slot → MeetsStep s c u t

-- nothing ever leaves the origin of a node without out-links
abbrev pub OriginsWithoutOutsAreEmpty : Setting → Counts → Type 0
OriginsWithoutOutsAreEmpty s c = (u d k : ℕ) → u < s.nodes → s.outs u ≡ 0 → d < s.destinations → k ≤ s.slots → c (dep_of s u) d k ≡ 0

-- a loading is a whole front, and nothing leaves the origin of a node without out-links
pub record IsLoading (s : Setting) (c : Counts) : Type 0 where
  pub front : IsFront s c s.slots
  pub no_origin : OriginsWithoutOutsAreEmpty s c
