-- Where the destinations of one list stand in another.
use Rattle.std.specs.Prelude.{◌≡◌, ◌≢◌, ℕ, ◌<◌, ◌≤◌, List, length, slice_index}
use Rattle.ltm_standing.specs.Listed.{NotIn}

-- each number is below those behind it
abbrev pub Rises : List ℕ → Type 0
Rises us = (i j : ℕ) → i < j → j < length us → slice_index us i < slice_index us j

-- the place of each number of a list in another; one that is not there has the length of the other, or more
pub record ArePlaces (inner outer places : List ℕ) : Type 0 where
  pub long : length places ≡ length inner
  pub there : (i : ℕ) → i < length inner → slice_index places i < length outer → slice_index outer (slice_index places i) ≡ slice_index inner i
  pub none : (i : ℕ) → i < length inner → length outer ≤ slice_index places i → NotIn outer (slice_index inner i)

-- no two of the places below a number are the same
abbrev pub AreApart : List ℕ → ℕ → Type 0
AreApart places n = (i j : ℕ) → i < j → j < length places → slice_index places j < n → slice_index places i ≢ slice_index places j
