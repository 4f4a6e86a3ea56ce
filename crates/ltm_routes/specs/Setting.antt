-- Rows that are set one after the other.
use Rattle.std.specs.Prelude.{ℕ, ◌≡◌, ◌<◌, ◌≤◌, ◌+◌, List, length, Ok, Err}
use Rattle.ltm_splits.specs.declared.keys.SplitFault.TheVariants.{TooManyRows}
use Rattle.ltm_splits.specs.Rows.{SplitRow}
use Rattle.ltm_scenario.specs.Data.{ScenarioData}
use Rattle.ltm_routes.specs.Split.{with_splits, KeepsRest}

-- the rows were set, each of them new
pub record HasSet (s : ScenarioData) (rows : List SplitRow) (next : ScenarioData) : Type 0 where
  pub set : with_splits s rows ≡ Ok next
  pub rest : KeepsRest s next
  pub count : length next.splits ≡ length s.splits + length rows
  pub few : length s.splits ≤ s.setup.most_split_rows → length next.splits ≤ s.setup.most_split_rows

-- one of the rows is one too many
pub record AreTooMany (s : ScenarioData) (rows : List SplitRow) : Type 0 where
  pub refused : with_splits s rows ≡ Err TooManyRows
  pub over : s.setup.most_split_rows < length s.splits + length rows
