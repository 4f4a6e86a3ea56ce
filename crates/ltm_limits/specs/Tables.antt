-- How limits lie in a flat table: those of one slot side by side.
use Rattle.std.specs.Prelude.{◌≡◌, ℕ, ◌+◌, ◌*◌, ◌<◌, ◌≤◌, if◌then◌else◌, nat_lt, List, map, slice_index_or, slice_index, length}
use Rattle.std.specs.List.{range_with_len}
use Rattle.ltm_limits.specs.Limits.{never_set}

-- what the table says; past its end no limit was ever set
abbrev pub said : List ℕ → ℕ → ℕ → ℕ → ℕ
said table links link slot = slice_index_or table (slot * links + link) never_set

unfoldable pub limits_of_link : List ℕ → ℕ → ℕ → ℕ → List ℕ
limits_of_link table links slots link = map (λ slot. said table links link slot) (range_with_len 0 slots)

unfoldable pub limits_in : List ℕ → ℕ → ℕ → List (List ℕ)
limits_in table links slots = map (limits_of_link table links slots) (range_with_len 0 links)

-- past the horizon no limit is set
abbrev pub IsQuiet : List ℕ → ℕ → ℕ → Type 0
IsQuiet table links slots = (link slot : ℕ) → link < links → slots ≤ slot → said table links link slot ≡ never_set

-- in one table stand these values for a link from a slot on, and in their place the other's; the rest is the same
pub record AreExchanged (old new : List ℕ) (links link from : ℕ) (values : List ℕ) : Type 0 where
  pub written : (k : ℕ) → k < length values → said new links link (from + k) ≡ slice_index values k
  pub before : (slot : ℕ) → slot < from → said new links link slot ≡ said old links link slot
  pub behind : (slot : ℕ) → from + length values ≤ slot → said new links link slot ≡ said old links link slot
  pub others : (l slot : ℕ) → l < links → (l ≡ link → ⊥) → said new links l slot ≡ said old links l slot

-- what a table with one link more says of a link at a slot
abbrev pub wide_at : List ℕ → ℕ → ℕ → ℕ → ℕ
wide_at table links slot link = if nat_lt link links then said table links link slot else never_set
