-- What follows from the definitions of limits alone.
use Rattle.std.specs.Prelude.{◌≡◌, ◌≢◌, ℕ, ◌+◌, ◌<◌, ◌≤◌, ◌⊎◌, List, [], length, slice_index_or}
use Rattle.ltm_limits.specs.Limits.{limit_at, never_set, with_values, with_limit, with_limits_of_link, limits_over, AreWhole}

-- a limit that is set for a link stands in the slots that were meant; other slots and other links keep theirs
pub record LimitsAreSet : Type 0 where
  pub here : (limits : List (List ℕ)) (link from to limit slot : ℕ) → link < length limits → to ≤ length (slice_index_or limits link []) → from ≤ slot → slot < to →
      limit_at (with_limit limits link from to limit) link slot ≡ limit
  pub elsewhere : (limits : List (List ℕ)) (link from to limit other slot : ℕ) → link < length limits → from ≤ to → to ≤ length (slice_index_or limits link []) →
      (other ≢ link) ⊎ ((slot < from) ⊎ (to ≤ slot)) → limit_at (with_limit limits link from to limit) other slot ≡ limit_at limits other slot

-- over a longer horizon each slot that stood before keeps its limit; in the new slots no limit was ever set
pub record LimitsAreLengthened : Type 0 where
  pub here : (limits : List (List ℕ)) (slots link slot : ℕ) → link < length limits → slot < length (slice_index_or limits link []) →
      limit_at (limits_over limits slots) link slot ≡ limit_at limits link slot
  pub past : (limits : List (List ℕ)) (slots link slot : ℕ) → link < length limits → length (slice_index_or limits link []) ≤ slot → slot < slots →
      limit_at (limits_over limits slots) link slot ≡ never_set

-- limits are whole where there is no link; they stay so with a link more, over a longer horizon, and where limits are
-- written within the slots
pub record LimitsStayWhole : Type 0 where
  pub none : (slots : ℕ) → AreWhole [] 0 slots
  pub more : (limits : List (List ℕ)) (links slots : ℕ) → AreWhole limits links slots → AreWhole (with_limits_of_link limits slots) (links + 1) slots
  pub longer : (limits : List (List ℕ)) (links slots more : ℕ) → slots ≤ more → AreWhole limits links slots → AreWhole (limits_over limits more) links more
  pub written : (limits : List (List ℕ)) (links slots link from : ℕ) (values : List ℕ) → link < links → from + length values ≤ slots →
      AreWhole limits links slots → AreWhole (with_values limits link from values) links slots
