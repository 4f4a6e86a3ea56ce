-- What an accepted edit makes of a scenario, kind by kind.
use Rattle.std.specs.Prelude.{◌≡◌, ℕ, ◌<◌, ◌≤◌, true, false, All, List, slice_get, Some, Ok, IsOk}
use Rattle.std.specs.Option.{option_map}
use Rattle.ltm_units.specs.declared.quantities.Units.{Units}
use Rattle.ltm_network.specs.Network.{find_node, find_link}
use Rattle.ltm_diagram.specs.declared.diagram.Diagram.{Diagram}
use Rattle.ltm_diagram.specs.Limits.{limits_of}
use Rattle.ltm_demand.specs.declared.row.DemandRow.{DemandRow}
use Rattle.ltm_demand.specs.Rows.{edited_rows}
use Rattle.ltm_splits.specs.declared.keys.SplitKey.{SplitKey}
use Rattle.ltm_splits.specs.Rows.{put_in}
use Rattle.ltm_splits.specs.Entries.{IsRising}
use Rattle.ltm_splits.specs.Replaced.{replaced}
use Rattle.ltm_scenario.specs.declared.edit.Edit.{Edit}
use Rattle.ltm_scenario.specs.declared.edit.Edit.TheVariants.{Demand, Limit, Split, Splits, Diagram as NewDiagram, Exit, Horizon}
use Rattle.ltm_scenario.specs.declared.side.Side.TheVariants.{Entry as AtEntry, Exit as AtExit}
use Rattle.ltm_scenario.specs.Weights.{NamedWeight, NamedRow}
use Rattle.ltm_scenario.specs.Data.{ScenarioData}
use Rattle.ltm_scenario.specs.Reads.{destination_of}
use Rattle.ltm_scenario.specs.Valid.{is_demand_split, is_small, all_lead_on}
use Rattle.ltm_scenario.specs.Build.{with_limit_at}
use Rattle.ltm_scenario.specs.Horizon.{with_slots}
use Rattle.ltm_scenario.specs.Edits.{edited, weights_at, is_open, entries_said, with_diagram}
use Rattle.ltm_units.specs.Bounds.{most_slots}

-- the name is that of a destination
abbrev pub IsNamed : ScenarioData → List ℕ → ℕ → Type 0
IsNamed s name destination = (node : ℕ) × (find_node s.network name ≡ Some node) × (destination_of s.destinations node ≡ Some destination)

-- the demand row that an edit says: some slots of the horizon, from a node that has a split row for the destination
pub record IsRowSaid (s : ScenarioData) (origin destination : List ℕ) (from to amount : ℕ) (row : DemandRow) : Type 0 where
  pub starts_at : find_node s.network origin ≡ Some row.origin.0
  pub leads_to : IsNamed s destination row.destination
  pub begins : row.from ≡ from
  pub ends : row.to ≡ to
  pub units : row.amount.0 ≡ amount
  pub some_slots : from < to
  pub within : to ≤ s.setup.slots
  pub is_split : is_demand_split s row ≡ true

-- the link whose limits an edit says, in some slots of the horizon
pub record IsLinkSaid (s : ScenarioData) (name : List ℕ) (from to link : ℕ) : Type 0 where
  pub named : find_link s.network name ≡ Some link
  pub some_slots : from < to
  pub within : to ≤ s.setup.slots

-- the split row that an edit says: from a slot of the horizon on, with weights that lead on
pub record IsSplitSaid (s : ScenarioData) (node destination : List ℕ) (from : ℕ) (weights : List NamedWeight) (key : SplitKey) : Type 0 where
  pub stands_at : find_node s.network node ≡ Some key.node.0
  pub leads_to : IsNamed s destination key.destination
  pub begins : key.from ≡ from
  pub within : from < s.setup.slots
  pub closed : is_open s key.node.0 key.destination key.from (weights_at s key.node.0 weights) ≡ false

-- the split rows that an edit says of a node and a destination: the first begins at slot 0, each other behind the one before
-- it, all within the horizon, with weights that lead on
pub record AreRowsSaid (s : ScenarioData) (node destination : List ℕ) (rows : List NamedRow) (n d : ℕ) : Type 0 where
  pub stand_at : find_node s.network node ≡ Some n
  pub lead_to : IsNamed s destination d
  pub first : option_map (λ row. row.0) (slice_get rows 0) ≡ Some 0
  pub rising : IsRising (entries_said s n rows)
  pub within : All (λ row. row.0 < s.setup.slots) rows
  pub closed : All (λ row. all_lead_on s n d (weights_at s n row.1) ≡ true) rows

-- the horizon that an edit says: longer than it was, and short enough
pub record IsHorizonSaid (s : ScenarioData) (slots : ℕ) : Type 0 where
  pub longer : s.setup.slots < slots
  pub within : slots ≤ most_slots
  pub small : is_small (with_slots s slots) ≡ true

-- an edit of each kind changes one part of the scenario
pub data Makes (s : ScenarioData) : ScenarioData → Edit → Type 0 where
  demand : (origin destination : List ℕ) (from to : ℕ) (amount : Units) (row : DemandRow) → IsRowSaid s origin destination from to amount.0 row →
      Makes s (record s { demand = edited_rows s.demand row }) (Demand origin destination from to amount)
  entry : (name : List ℕ) (from to : ℕ) (amount : Units) (link : ℕ) → IsLinkSaid s name from to link →
      Makes s (with_limit_at s AtEntry link from to amount.0) (Limit name from to amount)
  split : (node destination : List ℕ) (from : ℕ) (weights : List NamedWeight) (key : SplitKey) → IsSplitSaid s node destination from weights key →
      Makes s (record s { splits = put_in s.splits key (weights_at s key.node.0 weights) }) (Split node destination from weights)
  splits : (node destination : List ℕ) (rows : List NamedRow) (n d : ℕ) → AreRowsSaid s node destination rows n d →
      Makes s (record s { splits = replaced s.splits n d (entries_said s n rows) }) (Splits node destination rows)
  diagram : (name : List ℕ) (new : Diagram) (link : ℕ) → find_link s.network name ≡ Some link → IsOk (limits_of new s.setup.step.0 s.setup.carry) →
      Makes s (with_diagram s link new) (NewDiagram name new)
  exit : (name : List ℕ) (from to : ℕ) (amount : Units) (link : ℕ) → IsLinkSaid s name from to link →
      Makes s (with_limit_at s AtExit link from to amount.0) (Exit name from to amount)
  horizon : (slots : ℕ) → IsHorizonSaid s slots → Makes s (with_slots s slots) (Horizon slots)

abbrev pub EditsMake : Type 0
EditsMake = (s next : ScenarioData) (edit : Edit) → edited s edit ≡ Ok next → Makes s next edit
