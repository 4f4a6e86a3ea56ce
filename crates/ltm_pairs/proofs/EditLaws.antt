-- The laws of scenarios, limits, demand and weights that tell what an edit leaves alone.
use Rattle.std.proofs.Common.{◌≡◌, ◌≢◌, ◌⊎◌, ℕ, List}
use Rattle.ltm_limits.specs.Laws.{LimitsAreSet, LimitsAreLengthened}
use Rattle.ltm_demand.specs.declared.row.DemandRow.{DemandRow}
use Rattle.ltm_demand.specs.Rows.{edited_rows}
use Rattle.ltm_demand.specs.Produced.{by_end, IsSilent as IsNoRowOf}
use Rattle.ltm_splits.specs.declared.keys.SplitKey.{SplitKey}
use Rattle.ltm_splits.specs.Rows.{SplitRow, put_in, row_in_force, IsSilent as IsNoKeyOf}
use Rattle.ltm_splits.specs.Table.{Entry}
use Rattle.ltm_splits.specs.Replaced.{replaced}
use Rattle.ltm_scenario.specs.Makes.{EditsMake}
use Rattle.ltm_loading.specs.Reads.{SettingReadOnly, PositionReadOnly}

pub record EditLaws : Type 0 where
  pub make : EditsMake
  pub limits : LimitsAreSet
  pub longer : LimitsAreLengthened
  pub production : (rows : List DemandRow) (row : DemandRow) (o d t : ℕ) → IsNoRowOf o t row → by_end (edited_rows rows row) o d t ≡ by_end rows o d t
  pub weights : (rows : List SplitRow) (key : SplitKey) (w : List ℕ) (n d t : ℕ) → IsNoKeyOf n t key → row_in_force (put_in rows key w) n d t ≡ row_in_force rows n d t
  pub pairs : (rows : List SplitRow) (n d : ℕ) (entries : List Entry) (m e t : ℕ) → ((m ≢ n) ⊎ (e ≢ d)) → row_in_force (replaced rows n d entries) m e t ≡ row_in_force rows m e t
  pub reads : SettingReadOnly
  pub positions : PositionReadOnly
