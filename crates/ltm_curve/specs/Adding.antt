-- Amounts that are added to numbers in place, from one place on and up to another, not included.
use Rattle.std.specs.Prelude.{◌≡◌, ℕ, ◌+◌, ◌<◌, ◌≤◌, ◌⊎◌, List, length, slice_index}

-- to each its amount is added, and nothing else changes
pub record AddsAmounts (old new amounts : List ℕ) (begin end : ℕ) : Type 0 where
  pub count : length new ≡ length old
  pub sums : (d : ℕ) → begin ≤ d → d < end → slice_index new d ≡ slice_index old d + slice_index amounts d
  pub others : (d : ℕ) → (d < begin) ⊎ (end ≤ d) → slice_index new d ≡ slice_index old d
