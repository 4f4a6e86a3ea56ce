-- Which pairs may read what a commit changed, told from the arms that changed alone.
use Rattle.std.specs.Prelude.{◌≡◌, ℕ, ◌<◌, ◌==◌, ◌&&◌, ◌||◌, Bool, false, nat_le}
use Rattle.std.specs.Int.{bit_at}
use Rattle.ltm_curve.specs.Counts.{Counts}
use Rattle.ltm_loading.specs.Setting.{Setting, IsSetting}
use Rattle.ltm_loading.specs.Groups.{up_of, arr_of}
use Rattle.ltm_loading.specs.Pairs.{arms_of, arm_group, pair_row}
use Rattle.ltm_pairs.specs.declared.arm_set.ArmSet.{ArmSet}
use Rattle.ltm_pairs.specs.Windows.{reads_ago}
use Rattle.ltm_pairs.specs.Changes.{some_below, differs_at, ChangesNode}

-- the place is in the set, as a bit
abbrev pub has_place : ℕ → ℕ → Bool
has_place places place = bit_at places place == 1

-- the tail of one of the first n in-links that changed, in a slot that reads a wave time later what has left the link
abbrev pub depends_on_left : Setting → ℕ → ℕ → ℕ → ℕ → ℕ → ℕ → Bool
depends_on_left s u k arms n w v =
    some_below n (λ i. has_place arms i && ((w == s.tail (s.in_link u i)) && reads_ago s.step (s.wave_time (s.in_link u i)) v k))

-- the head of one of the first n out-links that changed: of which destinations the units are may be read in any later slot
abbrev pub depends_on_entered : Setting → ℕ → ℕ → ℕ → ℕ → Bool
depends_on_entered s u outs n w = some_below n (λ j. has_place outs j && (w == s.head (s.out_link u j)))

-- the pair (w, v) is of boundary k or later: the node's own at k, or of the tail of a changed in-link in the slots that
-- read it, or of the head of a changed out-link
abbrev pub depends : Setting → ℕ → ℕ → ArmSet → ℕ → ℕ → Bool
depends s u k changed w v =
    nat_le k v && (((w == u) && (v == k)) || (depends_on_left s u k changed.arms (s.ins u) w v || depends_on_entered s u changed.outs (s.outs u) w))

-- at least those arms, out-links and arrivals of a node are in the set whose counts differ at the boundary
pub record AreChanged (s : Setting) (u k : ℕ) (changed : ArmSet) (old new : Counts) : Type 0 where
  pub arms : (i : ℕ) → i < arms_of s u → has_place changed.arms i ≡ false → differs_at s old new (arm_group s u i) k ≡ false
  pub outs : (j : ℕ) → j < s.outs u → has_place changed.outs j ≡ false → differs_at s old new (up_of (s.out_link u j)) k ≡ false
  pub sink : has_place changed.sinks 0 ≡ false → differs_at s old new (arr_of s) k ≡ false

-- every other pair reads the same as before
abbrev pub DependentsAreAll : Type 0
DependentsAreAll =
    (s : Setting) (old new : Counts) (u k w v : ℕ) (changed : ArmSet) → IsSetting s → ChangesNode s u k old new → AreChanged s u k changed old new →
    w < s.nodes → v < s.slots → depends s u k changed w v ≡ false → pair_row s new w v ≡ pair_row s old w v
