-- What becomes of a core in a trial.
use Rattle.std.specs.Prelude.{ℕ, ◌≡◌, ◌-◌, ◌^◌, min, List, Ok}
use Rattle.ltm_flows.specs.Counts.{Counts}
use Rattle.ltm_scenario.specs.declared.edit.Edit.{Edit}
use Rattle.ltm_scenario.specs.Data.{ScenarioData}
use Rattle.ltm_scenario.specs.IsScenario.{IsScenario}
use Rattle.ltm_scenario.specs.Edits.{edited_all}
use Rattle.ltm_loading.specs.Loading.{IsLoading}
use Rattle.ltm_loading.specs.Differing.{differing}
use Rattle.ltm_setting.specs.Setting.{setting_of}
use Rattle.ltm_flows.specs.Shown.{Shows}
use Rattle.ltm_core.specs.Cores.{CoreData, IsResting}
use Rattle.ltm_workers.specs.Draining.{KeepsButWork}

-- from no commit on, all is worked on, and the solves are the commits
pub record WorksToRest (old new : CoreData) (count : ℕ) : Type 0 where
  pub rest : IsResting new
  pub keeps : KeepsButWork old new
  pub solved : old.commits ≡ 0 → count ≡ min new.commits (2 ^ 64 - 1)

-- a batch is accepted, its loading shown, and so many pairs were computed anew by so many solves
pub record Repairs (s : ScenarioData) (batch : List Edit) (recomputed solved : ℕ) (new : CoreData) : Type 0 where
  pub edited : ScenarioData
  pub edits : edited_all s batch ≡ Ok edited
  pub scenario : IsScenario edited
  pub network : edited.network ≡ s.network
  pub shows : Shows (setting_of edited) 1 new.shown
  pub counts : (before after : Counts) → IsLoading (setting_of s) before → IsLoading (setting_of edited) after → recomputed ≡ differing (setting_of s) (setting_of edited) before after
  pub same : solved ≡ recomputed
