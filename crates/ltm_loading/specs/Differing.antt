-- How far two loadings differ in what their pairs read.
use Rattle.std.specs.Prelude.{◌≡◌, ℕ, ◌+◌, ◌*◌, ◌≤◌, ◌==◌, List, Option, Some, None, nat_lt, if◌then◌else◌}
use Rattle.std.specs.Cmp.Lexicographic.{pointwise}
use Rattle.ltm_units.specs.Sums.{sum_below}
use Rattle.ltm_curve.specs.Counts.{Counts}
use Rattle.ltm_loading.specs.Setting.{Setting, IsSetting}
use Rattle.ltm_loading.specs.Pairs.{pair_row}
use Rattle.ltm_loading.specs.Loading.{IsLoading}

-- a sum over the pairs of so many nodes and slots
abbrev pub sum_pairs : ℕ → ℕ → (ℕ → ℕ → ℕ) → ℕ
sum_pairs nodes slots f = sum_below nodes (λ u. sum_below slots (f u))

-- 0 where both are the same row or neither is a row, else 1
unfoldable pub unlike : Option (List ℕ) → Option (List ℕ) → ℕ
unlike None None = 0
unlike None (Some y) = 1
unlike (Some x) None = 1
unlike (Some x) (Some y) = if pointwise ◌==◌ x y then 0 else 1

-- what a pair reads, where the setting has its slot
abbrev pub row_of : Setting → Counts → ℕ → ℕ → Option (List ℕ)
row_of s c u t = if nat_lt t s.slots then Some (pair_row s c u t) else None

-- how many pairs of s' the setting s does not have, or read other numbers of s and a than of s' and b
unfoldable pub differing : Setting → Setting → Counts → Counts → ℕ
differing s s' a b = sum_pairs s'.nodes s'.slots (λ u t. unlike (row_of s a u t) (Some (pair_row s' b u t)))

-- two loadings of one setting differ in nothing
abbrev pub NoneDiffer : Type 0
NoneDiffer = (s : Setting) (a b : Counts) → IsSetting s → IsLoading s a → IsLoading s b → differing s s a b ≡ 0

-- no more pairs differ than there are
abbrev pub DifferingIsWithinPairs : Type 0
DifferingIsWithinPairs = (s s' : Setting) (a b : Counts) → differing s s' a b ≤ s'.nodes * s'.slots

-- from one setting to the next of as many nodes, with a horizon that never falls, no fewer pairs differ than over both at
-- once
abbrev pub DifferencesAddUp : Type 0
DifferencesAddUp =
    (s s' s'' : Setting) (a b c : Counts) → s'.nodes ≡ s''.nodes → s.slots ≤ s'.slots → s'.slots ≤ s''.slots →
    differing s s'' a c ≤ differing s s' a b + differing s' s'' b c

-- with equal horizons it does not matter which comes first
abbrev pub DifferingEitherWay : Type 0
DifferingEitherWay = (s s' : Setting) (a b : Counts) → s.nodes ≡ s'.nodes → s.slots ≡ s'.slots → differing s s' a b ≡ differing s' s b a
