-- A node at which nothing moves in a slot.
use Rattle.std.specs.Prelude.{◌≡◌, ℕ, ◌+◌, ◌<◌}
use Rattle.ltm_curve.specs.Counts.{Counts}
use Rattle.ltm_loading.specs.Setting.{Setting}
use Rattle.ltm_loading.specs.Groups.{up_of}
use Rattle.ltm_loading.specs.Pairs.{arms_of, arm_group}

-- nothing leaves its arms, and nothing enters the links out of it
pub record IsStill (s : Setting) (c : Counts) (u t : ℕ) : Type 0 where
  pub left : (i d : ℕ) → i < arms_of s u → d < s.destinations → c (arm_group s u i) d (t + 1) ≡ c (arm_group s u i) d t
  pub entered : (j d : ℕ) → j < s.outs u → d < s.destinations → c (up_of (s.out_link u j)) d (t + 1) ≡ c (up_of (s.out_link u j)) d t
