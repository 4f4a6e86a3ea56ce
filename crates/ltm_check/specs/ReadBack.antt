-- What is written is read.
use Rattle.std.specs.Prelude.{ℕ, ◌≡◌, ◌<◌, ◌≤◌, ◌^◌, true, List, length}
use Rattle.ltm_units.specs.Words.{is_name}
use Rattle.ltm_curve.specs.Counts.{Counts}
use Rattle.ltm_scenario.specs.Network.{link_name, node_name}
use Rattle.ltm_scenario.specs.Data.{ScenarioData}
use Rattle.ltm_records.specs.Fields.{Fields}
use Rattle.ltm_records.specs.Left.{records_of}
use Rattle.ltm_loading.specs.Setting.{Setting, IsSetting}
use Rattle.ltm_loading.specs.Loading.{IsLoading}
use Rattle.ltm_loading.specs.Groups.{groups}
use Rattle.ltm_setting.specs.Setting.{setting_of}
use Rattle.ltm_check.specs.File.{IsCurveFile, told}
use Rattle.ltm_check.specs.Text.{curves_file}

-- each link and each node has a name of letters, digits, `_` and `-`
pub record AreNamed (s : ScenarioData) : Type 0 where
  pub links : (link : ℕ) → link < length s.network.links → is_name (link_name s.network link) ≡ true
  pub nodes : (node : ℕ) → node < length s.network.nodes → is_name (node_name s.network node) ≡ true

-- each count can be told
abbrev pub CanBeTold : Setting → Counts → Type 0
CanBeTold s c = (g d k : ℕ) → g < groups s → d < s.destinations → k ≤ s.slots → c g d k ≤ 2 ^ 48

-- the text of counts is a curve file, and it tells these counts
pub record ReadsBack (s : ScenarioData) (c : Counts) : Type 0 where
  pub file : IsCurveFile s (records_of (curves_file s c))
  pub counts : (g d k : ℕ) → g < groups (setting_of s) → d < (setting_of s).destinations → k ≤ (setting_of s).slots → told s (records_of (curves_file s c)) g d k ≡ c g d k

abbrev pub WrittenIsRead : Type 0
WrittenIsRead = (s : ScenarioData) (c : Counts) → IsSetting (setting_of s) → AreNamed s → CanBeTold (setting_of s) c → ReadsBack s c

-- the records are a curve file of the scenario, and what it counts is the loading
pub record TellsLoading (s : ScenarioData) (records : List Fields) : Type 0 where
  pub file : IsCurveFile s records
  pub loading : IsLoading (setting_of s) (told s records)

-- the text of a loading tells it
abbrev pub LoadingIsTold : Type 0
LoadingIsTold = (s : ScenarioData) (c : Counts) → IsSetting (setting_of s) → AreNamed s → IsLoading (setting_of s) c → TellsLoading s (records_of (curves_file s c))
