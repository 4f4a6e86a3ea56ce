-- What contracts see of a core, and what holds of every core.
use Rattle.std.specs.Prelude.{◌≡◌, ℕ, ◌<◌, ◌≤◌, ◌^◌, Bool, List, All}
use Rattle.ltm_curve.specs.TotalCurves.{total_at}
use Rattle.ltm_curve.specs.Counts.{Counts}
use Rattle.ltm_scenario.specs.Data.{ScenarioData}
use Rattle.ltm_scenario.specs.IsScenario.{IsScenario}
use Rattle.ltm_scenario.specs.Edits.{HaveAmounts}
use Rattle.ltm_scenario.specs.Valid.{IsValid}
use Rattle.ltm_setting.specs.Setting.{setting_of}
use Rattle.ltm_flows.specs.declared.loading.Loading.{Loading}
use Rattle.ltm_flows.specs.Shown.{Shows, version_of, curves_of, loading_room}
use Rattle.ltm_repair.specs.Desk.{Desk, IsAtRest}
use Rattle.ltm_repair.specs.Counting.{left_to_do, undone, claims_out}
use Rattle.ltm_repair.specs.State.{RepairState, now}
use Rattle.ltm_repair.specs.Repair.{IsRepair}
use Rattle.ltm_repair.specs.Events.{CoreEvent}
use Rattle.ltm_repair.specs.Answers.{IsNoneClaimed}
use Rattle.ltm_working.specs.declared.table.Table.{Table}
use Rattle.ltm_working.specs.Desks.{desk_at, changed_at}
use Rattle.ltm_working.specs.Ready.{IsReady}
use Rattle.ltm_core.specs.Log.{Log, batches_of, HoldsAccepted, version_now, settled_of, scenario_at, scenario_now}
use Rattle.ltm_core.specs.Settling.{setting_at}

pub record CoreData : Type 0 where
  pub log : Log
  -- the scenario as the accepted batches leave it
  pub scenario : ScenarioData
  -- what a repair works on: counts, kept inputs, active pairs and claims
  pub table : Table
  -- the finished loading that others read
  pub shown : Loading
  -- the commits since the last settle count
  pub commits : ℕ
  pub stopped : Bool
  -- what was done to it since it began, the newest first
  pub history : List CoreEvent

-- a core as it is kept
abbrev pub core_of : Log → ScenarioData → Table → Loading → ℕ → Bool → List CoreEvent → CoreData
core_of log scenario table shown commits stopped history = record {
  log = log;
  scenario = scenario;
  table = table;
  shown = shown;
  commits = commits;
  stopped = stopped;
  history = history;
}

-- its desk
abbrev pub desk_in : CoreData → Desk
desk_in d = desk_at (setting_of d.scenario) d.table

-- a core as the state of a repair
unfoldable pub repair_of : CoreData → RepairState
repair_of d = record {
  desk = desk_in d;
  settings = setting_at d.log;
  accepted = version_now d.log;
  settled = settled_of d.log;
  shown_at = version_of d.shown;
  shown = total_at (curves_of d.shown);
  commits = d.commits;
  changed = changed_at (setting_of d.scenario) d.table;
}

-- ---- the state of its pairs
-- no pair is active or claimed
unfoldable pub IsResting : CoreData → Type 0
IsResting d = IsAtRest (now (repair_of d)) (repair_of d).desk

-- no pair is claimed
unfoldable pub IsNoneOut : CoreData → Type 0
IsNoneOut d = IsNoneClaimed (now (repair_of d)) (repair_of d).desk

-- how many pairs are claimed
unfoldable pub claims_of : CoreData → ℕ
claims_of d = claims_out (now (repair_of d)).nodes (now (repair_of d)).slots (repair_of d).desk

-- of how many pairs the kept inputs are not those of a loading
unfoldable pub left_of : CoreData → Counts → ℕ
left_of d c = left_to_do (now (repair_of d)) c (repair_of d).desk

-- how many pairs may still be committed before another batch is accepted
unfoldable pub undone_of : CoreData → ℕ
undone_of d = undone (now (repair_of d)).nodes (now (repair_of d)).slots (repair_of d).desk

-- ---- what holds of every core
-- scenarios of one network and one list of destinations, the second with no shorter horizon
pub record IsAlike (s next : ScenarioData) : Type 0 where
  pub slots : s.setup.slots ≤ next.setup.slots
  pub network : next.network ≡ s.network
  pub destinations : next.destinations ≡ s.destinations

-- what is shown is the loading of the first so many accepted batches
pub record IsShownOf (log : Log) (loading : Loading) : Type 0 where
  pub is_version : version_of loading ≤ version_now log
  pub shows : Shows (setting_at log (version_of loading)) (version_of loading) loading
  pub scenario : IsScenario (scenario_at log (version_of loading))
  pub network : (scenario_at log (version_of loading)).network ≡ log.opening.network

-- each batch is accepted after those before it, and leaves a scenario like the opening one
pub record IsLog (log : Log) : Type 0 where
  pub accepted : HoldsAccepted log
  pub scenarios : (k : ℕ) → k ≤ version_now log → IsScenario (scenario_at log k)
  pub alike : (k : ℕ) → k ≤ version_now log → IsAlike log.opening (scenario_at log k)
  pub few : version_now log < 2 ^ 63
  -- the opening scenario was valid, and no amount is too great
  pub valid : IsValid log.opening
  pub amounts : All HaveAmounts (batches_of log)

-- a core's scenario is that of its log and valid, its desk is that of a repair, and it shows a loading, which has room for
-- the present horizon
pub record IsCore (d : CoreData) : Type 0 where
  pub log : IsLog d.log
  pub scenario : scenario_now d.log ≡ d.scenario
  pub valid : IsValid d.scenario
  pub repair : IsRepair (repair_of d)
  pub ready : IsReady (setting_of d.scenario) d.table
  pub shows : Shows (setting_at d.log (version_of d.shown)) (version_of d.shown) d.shown
  pub room : (setting_of d.scenario).slots ≤ loading_room d.shown
