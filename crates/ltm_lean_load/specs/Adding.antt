-- What had passed links by the end of a slot.
use Rattle.std.specs.Prelude.{◌≡◌, ◌≢◌, ℕ, ◌+◌, ◌-◌, ◌^◌, ◌<◌, ◌≤◌, ◌⊎◌, List, length, min, slice_index}
use Rattle.ltm_loading.specs.Setting.{Setting}
use Rattle.ltm_totals.specs.declared.totals.Totals.{Totals}
use Rattle.ltm_totals.specs.Totals.{total_links, total_slots, total_at}

-- no number stands twice
abbrev pub AreDistinct : List ℕ → Type 0
AreDistinct xs = (i j : ℕ) → i < j → j < length xs → slice_index xs i ≢ slice_index xs j

-- of the first n links of a list, what had passed by the end of a slot is what had by its beginning and so much more, up to
-- the most that 32 bits hold; no other total is changed
pub record AddsTo (at more : List ℕ) (t n : ℕ) (old new : Totals) : Type 0 where
  pub links : total_links new ≡ total_links old
  pub slots : total_slots new ≡ total_slots old
  pub here : (i : ℕ) → i < n → total_at new (slice_index at i) (t + 1) ≡ min (2 ^ 32 - 1) (total_at old (slice_index at i) t + slice_index more i)
  pub others : (l k : ℕ) → l < total_links old → ((i : ℕ) → i < n → slice_index at i ≢ l) ⊎ (k ≢ t + 1) → total_at new l k ≡ total_at old l k

-- and so of each link; the totals up to the slot's beginning stay
pub record AddsAll (s : Setting) (more : ℕ → ℕ) (t : ℕ) (old new : Totals) : Type 0 where
  pub links : total_links new ≡ total_links old
  pub slots : total_slots new ≡ total_slots old
  pub before : (l k : ℕ) → l < s.links → k ≤ t → total_at new l k ≡ total_at old l k
  pub next : (l : ℕ) → l < s.links → total_at new l (t + 1) ≡ min (2 ^ 32 - 1) (total_at old l t + more l)
