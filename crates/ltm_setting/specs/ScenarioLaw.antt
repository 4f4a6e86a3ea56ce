-- What a loading reads of a scenario is a setting, so the laws of loadings hold of every scenario.
use Rattle.std.specs.Prelude.{◌≡◌, ℕ, ◌+◌, ◌-◌, ◌<◌, ◌≤◌, length}
use Rattle.ltm_units.specs.Sums.{sum_below}
use Rattle.ltm_curve.specs.Counts.{Counts}
use Rattle.ltm_curve.specs.First.{first_units}
use Rattle.ltm_network.specs.Network.{out_links}
use Rattle.ltm_demand.specs.Produced.{by_end}
use Rattle.ltm_scenario.specs.Limits.{limit_at}
use Rattle.ltm_scenario.specs.Data.{ScenarioData}
use Rattle.ltm_scenario.specs.IsScenario.{IsScenario}
use Rattle.ltm_loading.specs.Setting.{IsSetting}
use Rattle.ltm_loading.specs.Groups.{up_of, down_of, dep_of, arr_of, groups}
use Rattle.ltm_loading.specs.Flows.{link_goal, origin_goal}
use Rattle.ltm_loading.specs.Loading.{IsLoading}
use Rattle.ltm_loading.specs.Totals.{generated, arrived, on_links, waiting, entered_link, left_link}
use Rattle.ltm_setting.specs.Setting.{limits_at, produced_by, setting_of}

abbrev pub ScenariosAreSettings : Type 0
ScenariosAreSettings = (s : ScenarioData) → IsScenario s → IsSetting (setting_of s)

-- what holds of a loading of a scenario
pub record HoldsOfLoading (s : ScenarioData) (c : Counts) : Type 0 where
  -- no count falls
  pub never_falls : (g d k : ℕ) → g < groups (setting_of s) → d < length s.destinations → k < s.setup.slots → c g d k ≤ c g d (k + 1)
  -- a destination leaves a link only out of the first units that entered it, and an origin out of the first produced
  pub link_first_out : (l d t : ℕ) → l < length s.network.links → d < length s.destinations → t < s.setup.slots →
      c (down_of l) d (t + 1) ≤ first_units (length s.destinations) (c (up_of l)) (link_goal (setting_of s) c l t) t d
  pub origin_first_out : (u d t : ℕ) → u < length s.network.nodes → 0 < length (out_links s.network u) → d < length s.destinations → t < s.setup.slots →
      c (dep_of (setting_of s) u) d (t + 1) ≤ first_units (length s.destinations) (produced_by s.demand u) (origin_goal (setting_of s) c u t) (t + 1) d
  -- what leaves a link in a slot is at most its exit limit
  pub within_exit : (l t : ℕ) → l < length s.network.links → t < s.setup.slots →
      left_link (setting_of s) c l (t + 1) ≤ left_link (setting_of s) c l t + limit_at s.exit l t
  -- what is on a link is at most what its diagram stores
  pub within_storage : (l k : ℕ) → l < length s.network.links → k ≤ s.setup.slots →
      entered_link (setting_of s) c l k ≤ left_link (setting_of s) c l k + (limits_at s l).storage
  -- by the end of a slot no more has left an origin than its demand has produced
  pub within_produced : (u d t : ℕ) → u < length s.network.nodes → d < length s.destinations → t < s.setup.slots →
      c (dep_of (setting_of s) u) d (t + 1) ≤ by_end s.demand u d t
  -- what left the origins for a destination has arrived or is on a link
  pub conserved : (d k : ℕ) → d < length s.destinations → k ≤ s.setup.slots →
      sum_below (length s.network.nodes) (λ u. c (dep_of (setting_of s) u) d k)
      ≡ c (arr_of (setting_of s)) d k + sum_below (length s.network.links) (λ l. c (up_of l) d k - c (down_of l) d k)
  -- no more has left a link than has entered it
  pub left_has_entered : (l d k : ℕ) → l < length s.network.links → d < length s.destinations → k ≤ s.setup.slots → c (down_of l) d k ≤ c (up_of l) d k
  -- what was produced has arrived, is on a link or waits at its origin
  pub adds_up : (k : ℕ) → k ≤ s.setup.slots →
      generated (setting_of s) k ≡ arrived (setting_of s) c k + on_links (setting_of s) c k + waiting (setting_of s) c k
  -- every other loading is the same
  pub one : (other : Counts) → IsLoading (setting_of s) other → (g d k : ℕ) → g < groups (setting_of s) → d < length s.destinations → k ≤ s.setup.slots →
      c g d k ≡ other g d k

abbrev pub LoadingsOfScenarios : Type 0
LoadingsOfScenarios = (s : ScenarioData) (c : Counts) → IsScenario s → IsLoading (setting_of s) c → HoldsOfLoading s c
