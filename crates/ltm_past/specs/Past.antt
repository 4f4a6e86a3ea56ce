-- What an accepted batch of edits leaves as it was.
use Rattle.std.specs.Prelude.{◌≡◌, ℕ, ◌<◌, ◌≤◌, List, [], ◌∷◌, All, Ok}
use Rattle.ltm_curve.specs.Counts.{Counts}
use Rattle.ltm_scenario.specs.declared.edit.Edit.{Edit}
use Rattle.ltm_scenario.specs.declared.edit.Edit.TheVariants.{Demand, Limit, Split, Splits, Diagram, Exit, Horizon}
use Rattle.ltm_scenario.specs.Data.{ScenarioData}
use Rattle.ltm_scenario.specs.IsScenario.{IsScenario}
use Rattle.ltm_scenario.specs.Edits.{edited_all}
use Rattle.ltm_loading.specs.Groups.{groups}
use Rattle.ltm_loading.specs.Loading.{IsLoading}
use Rattle.ltm_loading.specs.Totals.{entered_link, left_link, arrived}
use Rattle.ltm_flows.specs.Origins.{departed_from}
use Rattle.ltm_setting.specs.Setting.{setting_of}

-- the first slot of an edit: from it on demand, a limit or weights are others. All rows of a node for a destination, and a
-- diagram, count from the beginning, and a longer horizon from the end of the one before
abbrev pub first_slot : ℕ → Edit → ℕ
first_slot slots (Demand origin destination from to amount) = from
first_slot slots (Limit link from to amount) = from
first_slot slots (Split node destination from weights) = from
first_slot slots (Splits node destination rows) = 0
first_slot slots (Diagram link diagram) = 0
first_slot slots (Exit link from to amount) = from
first_slot slots (Horizon more) = slots

-- two counts have the same past: up to a boundary they are the same at both ends of each link, at each origin and at all
-- destinations
abbrev pub SamePast : ScenarioData → ℕ → Counts → Counts → Type 0
SamePast s last a b = (g d k : ℕ) → g < groups (setting_of s) → d < (setting_of s).destinations → k ≤ last → a g d k ≡ b g d k

-- the totals that are reported have the same past: what has entered each link by a boundary and has left it, what has left
-- each origin, and what has arrived
pub record SameReports (s next : ScenarioData) (last : ℕ) (a b : Counts) : Type 0 where
  pub entered : (l k : ℕ) → l < (setting_of s).links → k ≤ last → entered_link (setting_of next) b l k ≡ entered_link (setting_of s) a l k
  pub gone : (l k : ℕ) → l < (setting_of s).links → k ≤ last → left_link (setting_of next) b l k ≡ left_link (setting_of s) a l k
  pub departed : (u k : ℕ) → u < (setting_of s).nodes → k ≤ last → departed_from (setting_of next) b u k ≡ departed_from (setting_of s) a u k
  pub arrived : (k : ℕ) → k ≤ last → arrived (setting_of next) b k ≡ arrived (setting_of s) a k

-- where no edit of an accepted batch has an earlier first slot, and it lies within the horizon, the loadings before and
-- after the batch have the same past up to that slot's beginning
abbrev pub PastStays : Type 0
PastStays =
    (s next : ScenarioData) (batch : List Edit) (slot : ℕ) (before after : Counts) → IsScenario s → edited_all s batch ≡ Ok next →
    slot ≤ s.setup.slots → All (λ edit. slot ≤ first_slot s.setup.slots edit) batch →
    IsLoading (setting_of s) before → IsLoading (setting_of next) after → SamePast s slot before after

-- and so have the totals that are reported of them
abbrev pub ReportsStay : Type 0
ReportsStay =
    (s next : ScenarioData) (batch : List Edit) (slot : ℕ) (before after : Counts) → IsScenario s → edited_all s batch ≡ Ok next →
    slot ≤ s.setup.slots → All (λ edit. slot ≤ first_slot s.setup.slots edit) batch →
    IsLoading (setting_of s) before → IsLoading (setting_of next) after → SameReports s next slot before after

-- a loading of a longer horizon is that of the shorter one up to its end
abbrev pub LongerBeginsAsShorter : Type 0
LongerBeginsAsShorter =
    (s next : ScenarioData) (more : ℕ) (before after : Counts) → IsScenario s → edited_all s (Horizon more ∷ []) ≡ Ok next →
    IsLoading (setting_of s) before → IsLoading (setting_of next) after → SamePast s s.setup.slots before after
