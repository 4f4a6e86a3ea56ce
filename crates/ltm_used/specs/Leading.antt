-- Which links split rows take for which destinations.
use Rattle.std.specs.Prelude.{◌≡◌, ℕ, ◌<◌, List, length, slice_index, All}
use Rattle.ltm_splits.specs.Rows.{SplitRow}
use Rattle.ltm_loading.specs.Setting.{Setting}
use Rattle.ltm_used.specs.Found.{number_of}

-- what was marked still is
pub record KeepsMarks (old new : List ℕ) : Type 0 where
  pub long : length new ≡ length old
  pub marks : (k : ℕ) → 0 < slice_index old k → 0 < slice_index new k

-- each out-link to which a split row gives a weight is marked for the row's destination
abbrev pub IsMarked : Setting → List ℕ → SplitRow → Type 0
IsMarked s goes row =
    (j : ℕ) → j < s.outs row.0.node.0 → 0 < slice_index row.1 j → 0 < slice_index goes (number_of s (s.out_link row.0.node.0 j) row.0.destination)

-- and so of each row
abbrev pub AreAllMarked : Setting → List ℕ → List SplitRow → Type 0
AreAllMarked s goes rows = All (IsMarked s goes) rows
