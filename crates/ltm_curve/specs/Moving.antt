-- Sums that are written over the numbers of a table: those of numbers that begin at one place and of amounts, over those at
-- another place, from one amount on and up to another, not included.
use Rattle.std.specs.Prelude.{◌≡◌, ℕ, ◌+◌, ◌<◌, ◌≤◌, ◌⊎◌, List, slice_index}

-- the number at the other place is the sum
abbrev pub IsSum : List ℕ → List ℕ → ℕ → ℕ → List ℕ → ℕ → Type 0
IsSum old new from to amounts d = slice_index new (to + d) ≡ slice_index old (from + d) + slice_index amounts d

-- each sum stands there already
abbrev pub StandSums : List ℕ → ℕ → ℕ → List ℕ → ℕ → ℕ → Type 0
StandSums table from to amounts begin end = (d : ℕ) → begin ≤ d → d < end → IsSum table table from to amounts d

-- each sum is written, and nothing else changes
pub record WritesSums (old new : List ℕ) (from to : ℕ) (amounts : List ℕ) (begin end : ℕ) : Type 0 where
  pub sums : (d : ℕ) → begin ≤ d → d < end → IsSum old new from to amounts d
  pub others : (i : ℕ) → (i < to + begin) ⊎ (to + end ≤ i) → slice_index new i ≡ slice_index old i
