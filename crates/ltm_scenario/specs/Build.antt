-- What the calls that build a scenario make of it.
use Rattle.std.specs.Prelude.{◌≡◌, ℕ, ◌==◌, ◌&&◌, false, All, Bool, nat_le, nat_lt, if◌then◌else◌, min, List, [], ◌∷◌, ◌++◌, length, Option, Some, None, Result, Ok, Err}
use Rattle.ltm_limits.specs.Limits.{with_limits_of_link, with_limit}
use Rattle.ltm_network.specs.Network as network
use Rattle.ltm_network.specs.Network.{NetworkData}
use Rattle.ltm_network.specs.declared.network.NetworkFault.{NetworkFault}
use Rattle.ltm_diagram.specs.declared.diagram.Diagram.{Diagram}
use Rattle.ltm_diagram.specs.declared.diagram.DiagramFault.{DiagramFault}
use Rattle.ltm_diagram.specs.Limits.{limits_of}
use Rattle.ltm_demand.specs.declared.row.DemandRow.{DemandRow}
use Rattle.ltm_demand.specs.declared.row.DemandFault.{DemandFault}
use Rattle.ltm_demand.specs.declared.row.DemandFault.TheVariants.{BadSlots}
use Rattle.ltm_demand.specs.Rows as demand
use Rattle.ltm_demand.specs.Rows.{DemandData}
use Rattle.ltm_splits.specs.declared.keys.SplitKey.{SplitKey}
use Rattle.ltm_splits.specs.declared.keys.SplitFault.{SplitFault}
use Rattle.ltm_splits.specs.Rows as splits
use Rattle.ltm_splits.specs.Rows.{SplitsData}
use Rattle.ltm_splits.specs.Table.{Entry as PairEntry}
use Rattle.ltm_splits.specs.Replaced as replaced
use Rattle.ltm_scenario.specs.declared.faults.LinkFault.{LinkFault}
use Rattle.ltm_scenario.specs.declared.faults.LinkFault.TheVariants.{Network, Diagram as BadDiagram}
use Rattle.ltm_scenario.specs.declared.faults.DestinationFault.{DestinationFault}
use Rattle.ltm_scenario.specs.declared.faults.DestinationFault.TheVariants.{TooMany}
use Rattle.ltm_scenario.specs.declared.side.Side.{Side}
use Rattle.ltm_scenario.specs.declared.side.Side.TheVariants.{Entry, Exit}
use Rattle.ltm_scenario.specs.Data.{ScenarioData, demand_of, splits_of}
use Rattle.ltm_scenario.specs.Reads.{destination_of}
use Rattle.ltm_units.specs.Bounds.{most_in_slot}

infixl 10 ◌>>=◌
abbrev pub ◌>>=◌ : {A B F : Type 0} → Result A F → (A → Result B F) → Result B F
(Ok x) >>= next = next x
(Err fault) >>= next = Err fault

abbrev pub of_network : {A : Type 0} → Result A NetworkFault → Result A LinkFault
of_network (Ok x) = Ok x
of_network (Err fault) = Err (Network fault)

abbrev pub of_diagram : {A : Type 0} → Result A DiagramFault → Result A LinkFault
of_diagram (Ok x) = Ok x
of_diagram (Err fault) = Err (BadDiagram fault)

-- the scenario on that network, with its last link's diagram, and limits that were never set
abbrev pub with_link_on : ScenarioData → NetworkData → Diagram → ScenarioData
with_link_on s network diagram = record s {
  network = network;
  diagrams = s.diagrams ++ diagram ∷ [];
  entry = with_limits_of_link s.entry s.setup.slots;
  exit = with_limits_of_link s.exit s.setup.slots;
}

-- with one link more; what the network refuses comes before what the diagram lacks
unfoldable pub with_link : ScenarioData → List ℕ → List ℕ → List ℕ → Diagram → Result ScenarioData LinkFault
with_link s name tail head diagram =
    of_network (network.with_link s.network name tail head) >>= λ next.
    of_diagram (limits_of diagram s.setup.step.0 s.setup.carry) >>= λ _.
    Ok (with_link_on s next diagram)

-- the destinations, at most so many, once a node is one
abbrev pub with_destination_at : ℕ → List ℕ → ℕ → Option ℕ → Result (List ℕ) DestinationFault
with_destination_at most destinations node (Some place) = Ok destinations
with_destination_at most destinations node None = if nat_le most (length destinations) then Err TooMany else Ok (destinations ++ node ∷ [])

abbrev pub with_destination : ScenarioData → ℕ → Result ScenarioData DestinationFault
with_destination s node = with_destination_at s.setup.most_destinations s.destinations node (destination_of s.destinations node) >>= λ destinations. Ok (record s { destinations = destinations })

abbrev pub with_demand : ScenarioData → DemandRow → Result ScenarioData DemandFault
with_demand s row = demand.with_row (demand_of s) row >>= λ next. Ok (record s { demand = next.rows })

abbrev pub with_split : ScenarioData → SplitKey → List ℕ → Result ScenarioData SplitFault
with_split s key weights = splits.with_row (splits_of s) key weights >>= λ next. Ok (record s { splits = next.rows })

abbrev pub with_pair : ScenarioData → ℕ → ℕ → List PairEntry → Result ScenarioData SplitFault
with_pair s node destination entries = replaced.with_pair (splits_of s) node destination entries >>= λ next. Ok (record s { splits = next.rows })

-- some slots, and all of them within the horizon
abbrev pub are_slots : ScenarioData → ℕ → ℕ → Bool
are_slots s from to = nat_lt from to && nat_le to s.setup.slots

-- a limit in thousandths of a vehicle: no link passes more than 32 in a slot
abbrev pub as_limit : ℕ → ℕ
as_limit amount = min amount most_in_slot

-- the entry limits, or the exit limits
abbrev pub limits_at : ScenarioData → Side → List (List ℕ)
limits_at s Entry = s.entry
limits_at s Exit = s.exit

abbrev pub with_limits_at : ScenarioData → Side → List (List ℕ) → ScenarioData
with_limits_at s Entry limits = record s { entry = limits }
with_limits_at s Exit limits = record s { exit = limits }

abbrev pub with_limit_at : ScenarioData → Side → ℕ → ℕ → ℕ → ℕ → ScenarioData
with_limit_at s side link from to amount = with_limits_at s side (with_limit (limits_at s side) link from to (as_limit amount))

abbrev pub with_limit_set : ScenarioData → Side → ℕ → ℕ → ℕ → ℕ → Result ScenarioData DemandFault
with_limit_set s side link from to amount = if are_slots s from to then Ok (with_limit_at s side link from to amount) else Err BadSlots

abbrev pub with_exit : ScenarioData → ℕ → ℕ → ℕ → ℕ → Result ScenarioData DemandFault
with_exit s link from to amount = with_limit_set s Exit link from to amount

-- no split row stands at the node
abbrev pub HasNoSplitAt : ScenarioData → ℕ → Type 0
HasNoSplitAt s node = All (λ row. (node == row.0.node.0) ≡ false) s.splits
