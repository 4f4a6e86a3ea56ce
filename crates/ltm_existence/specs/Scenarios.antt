-- That every scenario has a loading.
use Rattle.ltm_setting.specs.Data.{ScenarioData}
use Rattle.ltm_setting.specs.IsScenario.{IsScenario}
use Rattle.ltm_setting.specs.Setting.{setting_of}
use Rattle.ltm_existence.specs.Existence.{HasLoading}

-- what a loading reads of a scenario has a loading
abbrev pub ScenariosHaveLoadings : Type 0
ScenariosHaveLoadings = (s : ScenarioData) → IsScenario s → HasLoading (setting_of s)
