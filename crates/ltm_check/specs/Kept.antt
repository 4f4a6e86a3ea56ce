-- How curves keep the counts of a file: in 32 bits, and so one that is greater than any count of a loading as the greatest
-- that they hold.
use Rattle.std.specs.Prelude.{ℕ, ◌≡◌, ◌≢◌, ◌<◌, ◌≤◌, ◌⊎◌, min, List, slice_index}
use Rattle.ltm_curve.specs.Counts.{Counts}
use Rattle.ltm_curve.specs.Table.{counts_of, slots_of, SameShape, IsIn}
use Rattle.ltm_curve.specs.declared.curves.Curves.{Curves}
use Rattle.ltm_loading.specs.Setting.{Setting}
use Rattle.ltm_loading.specs.Groups.{groups}
use Rattle.ltm_loading.specs.Shaped.{IsShaped}

-- 2^31 - 1
abbrev pub greatest_kept : ℕ
greatest_kept = 2147483647

abbrev pub clipped_count : ℕ → ℕ
clipped_count count = min count greatest_kept

-- counts as they are kept
abbrev pub AreKept : Setting → Counts → Counts → Type 0
AreKept s told c = (g d k : ℕ) → g < groups s → d < s.destinations → k ≤ s.slots → c g d k ≡ clipped_count (told g d k)

-- curves of the setting's shape that keep these counts
pub record Keeps (s : Setting) (told : Counts) (c : Curves) : Type 0 where
  pub shape : IsShaped s c
  pub counts : AreKept s told (counts_of c)

-- the counts of a group and a destination are put as they are kept, and no other count changes
pub record PutsCounts (old new : Curves) (group destination : ℕ) (counts : List ℕ) : Type 0 where
  pub shape : SameShape new old
  pub here : (k : ℕ) → k ≤ slots_of old → counts_of new group destination k ≡ clipped_count (slice_index counts k)
  pub others : (g d k : ℕ) → IsIn old g d k → (g ≢ group) ⊎ (d ≢ destination) → counts_of new g d k ≡ counts_of old g d k
