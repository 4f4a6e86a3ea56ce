-- An accepted batch.
use Rattle.std.specs.Prelude.{◌≡◌, ℕ, ◌<◌, ◌≤◌, ◌&&◌, not, List, Bool, false}
use Rattle.ltm_units.specs.declared.places.Reach.{Reach}
use Rattle.ltm_scenario.specs.declared.edit.Edit.{Edit}
use Rattle.ltm_scenario.specs.Data.{ScenarioData}
use Rattle.ltm_scenario.specs.Shape.{SameShape}
use Rattle.ltm_setting.specs.Setting.{setting_of}
use Rattle.ltm_repair.specs.Moves.{Accepts}
use Rattle.ltm_pairs.specs.Reaches.{lies_in_one}
use Rattle.ltm_pairs.specs.Touched.{is_touched, ReadsSameBut}
use Rattle.ltm_rows.specs.declared.rows.KeptRows.{KeptRows}
use Rattle.ltm_rows.specs.Rows.{nodes_kept, slots_kept, weights_of, is_weighed, kept_row, SamePlaces}
use Rattle.ltm_working.specs.declared.table.Table.{Table}
use Rattle.ltm_working.specs.Pairs.{of_pairs}
use Rattle.ltm_working.specs.Desks.{desk_at, changed_at}
use Rattle.ltm_working.specs.Ready.{FitsTable, IsReady}
use Rattle.ltm_working.specs.Growing.{horizon_of, at_horizon, TableHasRoom}

-- the edits lead from one scenario to another of its shape, whose horizon is no shorter, and a pair outside their reaches
-- reads the same of both
pub record LeadsTo (before after : ScenarioData) (edits : List Edit) : Type 0 where
  pub shape : SameShape before after
  pub reads : ReadsSameBut before after (is_touched before edits)

-- the pairs of a scenario that edits touch
abbrev pub touches : ScenarioData → List Edit → ℕ → ℕ → Bool
touches s edits = of_pairs (setting_of s) false (is_touched s edits)

-- a table of the scenario before becomes one of the scenario after: claims are void, what was active or claimed or is
-- touched is active, and so is every new pair; no cell is changed that was not
pub record TakesIn (before after : ScenarioData) (edits : List Edit) (old new : Table) : Type 0 where
  pub ready : IsReady (setting_of after) new
  pub accepts : Accepts (setting_of before) (setting_of after) (desk_at (setting_of before) old) (touches before edits) (desk_at (setting_of after) new)
  pub cells : changed_at (setting_of after) new ≡ changed_at (setting_of before) old

-- the pairs of reaches
abbrev pub in_reaches : List Reach → ℕ → ℕ → Bool
in_reaches reaches u t = lies_in_one reaches u t

-- the weights of these pairs are weighed no more; every row stays
pub record UnweighsAll (old new : KeptRows) (which : ℕ → ℕ → Bool) : Type 0 where
  pub places : SamePlaces old new
  pub slots : slots_kept new ≡ slots_kept old
  pub rows : (w v : ℕ) → kept_row new w v ≡ kept_row old w v
  pub weights : (w v : ℕ) → weights_of new w v ≡ weights_of old w v
  pub weighed : (w v : ℕ) → w < nodes_kept old → v < slots_kept old → is_weighed new w v ≡ (is_weighed old w v && not (which w v))

-- a table has the sizes of a scenario but for the horizon, which is no longer, and room for its own
pub record FitsUnder (after : ScenarioData) (t : Table) : Type 0 where
  pub fits : FitsTable (at_horizon (setting_of after) (horizon_of t)) t
  pub longer : horizon_of t ≤ (setting_of after).slots
  pub room : TableHasRoom t (horizon_of t)

-- so it is with a table of a scenario before, of the same shape
abbrev pub TablesFit : Type 0
TablesFit = (before after : ScenarioData) (t : Table) → SameShape before after → FitsTable (setting_of before) t → FitsUnder after t
