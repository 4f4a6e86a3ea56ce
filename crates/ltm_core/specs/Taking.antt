-- A batch is taken into a scenario and a table.
use Rattle.std.specs.Prelude.{◌≡◌, List, Ok}
use Rattle.ltm_scenario.specs.declared.edit.Edit.{Edit}
use Rattle.ltm_scenario.specs.Data.{ScenarioData}
use Rattle.ltm_scenario.specs.Edits.{edited_all, horizon_after, HaveAmounts}
use Rattle.ltm_scenario.specs.IsScenario.{IsScenario}
use Rattle.ltm_scenario.specs.Valid.{IsValid}
use Rattle.ltm_loading.specs.Setting.{IsSetting}
use Rattle.ltm_loading.specs.Networks.{SameNetwork}
use Rattle.ltm_setting.specs.Setting.{setting_of}
use Rattle.ltm_working.specs.declared.table.Table.{Table}
use Rattle.ltm_working.specs.Batches.{TakesIn}
use Rattle.ltm_core.specs.Cores.{IsAlike}

-- the edits lead from s to next, and the table of s becomes one of next
pub record TakesBatch (s next : ScenarioData) (old new : Table) (batch : List Edit) : Type 0 where
  pub edited : edited_all s batch ≡ Ok next
  pub scenario : IsScenario next
  pub valid : IsValid next
  pub amounts : HaveAmounts batch
  pub alike : IsAlike s next
  pub setting : IsSetting (setting_of next)
  pub slots : (setting_of next).slots ≡ horizon_after s.setup.slots batch
  pub network : SameNetwork (setting_of s) (setting_of next)
  pub table : TakesIn s next batch old new
