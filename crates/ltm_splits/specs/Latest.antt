-- The row with the greatest first slot that is at most a slot, said without the order of the rows.
use Rattle.std.specs.Prelude.{◌≡◌, ℕ, ◌<◌, ◌≤◌, Some, None, List}
use Rattle.ltm_splits.specs.Rows.{SplitRow, key_of, row_of}

-- the weights are those of a row of the pair that begins at or before the slot, and no row of the pair begins after it and at or before the slot
abbrev pub IsLatest : List SplitRow → ℕ → ℕ → ℕ → List ℕ → Type 0
IsLatest rows node destination slot weights =
    (from : ℕ) × (from ≤ slot) × (row_of rows (key_of node destination from) ≡ Some weights)
    × ((later : ℕ) → from < later → later ≤ slot → row_of rows (key_of node destination later) ≡ None)
