-- A pair has a row where it has a first one.
use Rattle.std.specs.Prelude.{◌≡◌, ℕ, List, is_some}
use Rattle.ltm_splits.specs.Rows.{SplitRow, begins}
use Rattle.ltm_scenario.specs.Reads.{has_split}
use Rattle.ltm_scenario.proofs.Found as found

pub begins_tells : (rows : List SplitRow) (node destination : ℕ) → is_some (begins rows node destination) ≡ has_split rows node destination
begins_tells rows node destination = found.begins_tells rows node destination
