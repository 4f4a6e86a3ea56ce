use Rattle.std.specs.Prelude.{◌≡◌, ℕ, ◌+◌, ◌<◌, ◌≤◌, List, drop, sum, length, slice_index}
use Rattle.ltm_units.specs.Nested.{nested_split}

-- an amount is split over the first weights: so much is left of it, and so much of the sum of the weights
pub record IsSplitUpTo (amount : ℕ) (weights : List ℕ) (first left rest : ℕ) : Type 0 where
  pub within : left ≤ amount
  pub fewer : rest ≤ sum weights
  pub whole : rest ≡ sum (drop first weights)
  pub parts : (k : ℕ) → slice_index (nested_split amount weights) (first + k) ≡ slice_index (nested_split left (drop first weights)) k

-- all weight is one out-link's
pub record HasOne (weights : List ℕ) (out : ℕ) : Type 0 where
  pub within : out < length weights
  pub some : 0 < sum weights
  pub all : slice_index weights out ≡ sum weights

-- all weight is two out-links'
pub record HasTwo (weights : List ℕ) (first second : ℕ) : Type 0 where
  pub order : first < second
  pub within : second < length weights
  pub some : 0 < slice_index weights second
  pub all : slice_index weights first + slice_index weights second ≡ sum weights
