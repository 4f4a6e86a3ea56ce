-- The limits of links: for each link its limit at each slot.
use Rattle.std.specs.Prelude.{◌≡◌, ℕ, ◌+◌, ◌-◌, List, [], ◌∷◌, ◌++◌, All, length, map, take, drop, replicate, slice_index, slice_index_or, slice_set}
use Rattle.ltm_units.specs.Bounds.{most_in_slot}

-- a limit that was never set: no link passes more in a slot
abbrev pub never_set : ℕ
never_set = most_in_slot

-- the limit of a link at a slot
abbrev pub limit_at : List (List ℕ) → ℕ → ℕ → ℕ
limit_at limits link slot = slice_index (slice_index_or limits link []) slot

-- the list with these values from a place on
abbrev pub list_with_values : ℕ → List ℕ → List ℕ → List ℕ
list_with_values from values xs = take from xs ++ (values ++ drop (from + length values) xs)

-- the limits with these for one link, from a slot on
abbrev pub with_values : List (List ℕ) → ℕ → ℕ → List ℕ → List (List ℕ)
with_values limits link from values = slice_set limits link (list_with_values from values (slice_index_or limits link []))

-- the limits with one limit for a link in the slots from .. to - 1
abbrev pub with_limit : List (List ℕ) → ℕ → ℕ → ℕ → ℕ → List (List ℕ)
with_limit limits link from to limit = with_values limits link from (replicate (to - from) limit)

-- the limits of a link in some slots from one on
abbrev pub values_of : List (List ℕ) → ℕ → ℕ → ℕ → List ℕ
values_of limits link from count = take count (drop from (slice_index_or limits link []))

-- one link more, whose limits were never set
abbrev pub with_limits_of_link : List (List ℕ) → ℕ → List (List ℕ)
with_limits_of_link limits slots = limits ++ replicate slots never_set ∷ []

-- a link's limits over that many slots: those past its last slot were never set
abbrev pub row_over : ℕ → List ℕ → List ℕ
row_over slots row = row ++ replicate (slots - length row) never_set

-- the limits over a longer horizon
abbrev pub limits_over : List (List ℕ) → ℕ → List (List ℕ)
limits_over limits slots = map (row_over slots) limits

-- the limits of the first slots alone
abbrev pub limits_within : List (List ℕ) → ℕ → List (List ℕ)
limits_within limits slots = map (take slots) limits

-- a row for each link, and in each row a limit for each slot
pub record AreWhole (limits : List (List ℕ)) (links slots : ℕ) : Type 0 where
  pub for_each : length limits ≡ links
  pub long : All (λ row. length row ≡ slots) limits

-- the limits and the horizon, and how many limits can be written without memory
pub record LimitsState : Type 0 where
  pub limits : List (List ℕ)
  pub slots : ℕ
  pub places : ℕ
