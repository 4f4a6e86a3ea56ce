-- What of a node's counts is written.
use Rattle.std.specs.Prelude.{◌≡◌, ◌≢◌, ℕ, ◌+◌, ◌*◌, ◌<◌, ◌≤◌, List, Some, slice_index}
use Rattle.ltm_curve.specs.Counts.{Counts}
use Rattle.ltm_loading.specs.Setting.{Setting}
use Rattle.ltm_loading.specs.Groups.{up_of, arr_of, groups}
use Rattle.ltm_loading.specs.Pairs.{arrived_by}

-- the group of what has entered an out-link
abbrev pub out_group : Setting → ℕ → ℕ → ℕ
out_group s u j = up_of (s.out_link u j)

-- the counts of the groups of a node in its row
abbrev pub in_row : Setting → List ℕ → ℕ → ℕ → ℕ
in_row s row i d = slice_index row (i * s.destinations + d)

-- what has been counted of some groups at a boundary, and what moves
abbrev pub with_moves : Counts → ℕ → (ℕ → ℕ) → (ℕ → ℕ → ℕ) → ℕ → ℕ → ℕ
with_moves c boundary group moves i d = c (group i) d boundary + moves i d

-- so many groups are given their counts at a boundary, and no other count changes
pub record SetsGroups (s : Setting) (boundary count : ℕ) (group : ℕ → ℕ) (value : ℕ → ℕ → ℕ) (old new : Counts) : Type 0 where
  pub here : (i d : ℕ) → i < count → d < s.destinations → new (group i) d boundary ≡ value i d
  pub later : (g d j : ℕ) → g < groups s → d < s.destinations → j ≤ s.slots → j ≢ boundary → new g d j ≡ old g d j
  pub others : (g d : ℕ) → g < groups s → d < s.destinations → ((i : ℕ) → i < count → group i ≢ g) → new g d boundary ≡ old g d boundary

-- what has arrived at a node is given at a boundary, and no other count changes
pub record SetsSink (s : Setting) (node boundary arrived : ℕ) (old new : Counts) : Type 0 where
  pub here : arrived_by s new (s.own node) boundary ≡ arrived
  pub later : (g d j : ℕ) → g < groups s → d < s.destinations → j ≤ s.slots → j ≢ boundary → new g d j ≡ old g d j
  pub others : (g d : ℕ) → g < groups s → d < s.destinations → ((arr_of s ≡ g) × (s.own node ≡ Some d) → ⊥) → new g d boundary ≡ old g d boundary
