-- Where a row stands among rows in the order of their keys, or would stand.
use Rattle.std.specs.Prelude.{◌≡◌, ℕ, suc, ◌<◌, ◌≤◌, List, [], ◌∷◌, length, take, drop, slice_index_or}
use Rattle.std.specs.declared.cmp.Ordering.TheVariants.{Equal}
use Rattle.ltm_demand.specs.declared.row.DemandRow.{DemandRow}
use Rattle.ltm_demand.specs.Rows.{row_cmp, before, standing, behind}

-- the one row with the key of the row stands at the place
pub record IsAt (rows : List DemandRow) (row : DemandRow) (place : ℕ) : Type 0 where
  pub within : place < length rows
  pub same : row_cmp (slice_index_or rows place row) row ≡ Equal
  pub before_is : before rows row ≡ take place rows
  pub standing_is : standing rows row ≡ slice_index_or rows place row ∷ []
  pub behind_is : behind rows row ≡ drop (suc place) rows

-- destinations never fall from row to row, so that the rows to one lie side by side
abbrev pub NeverFall : List DemandRow → Type 0
NeverFall rows = (i k : ℕ) (d : DemandRow) → i ≤ k → k < length rows → (slice_index_or rows i d).destination ≤ (slice_index_or rows k d).destination

-- the rows to the destination begin at the place, or would stand there
pub record IsBegin (rows : List DemandRow) (destination : ℕ) (place : ℕ) : Type 0 where
  pub within : place ≤ length rows
  pub before : (k : ℕ) (d : DemandRow) → k < place → (slice_index_or rows k d).destination < destination
  pub from : (k : ℕ) (d : DemandRow) → place ≤ k → k < length rows → destination ≤ (slice_index_or rows k d).destination

-- no row has the key, and the row would go to the place
pub record IsGap (rows : List DemandRow) (row : DemandRow) (place : ℕ) : Type 0 where
  pub within : place ≤ length rows
  pub before_is : before rows row ≡ take place rows
  pub standing_is : standing rows row ≡ []
  pub behind_is : behind rows row ≡ drop place rows
