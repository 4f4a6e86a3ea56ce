-- What a loading reads of a scenario.
use Rattle.std.specs.Prelude.{ℕ, ◌-◌, ◌==◌, if◌then◌else◌, Bool, length, slice_get, slice_index, List, Option, Some, None, Result, Ok, Err}
use Rattle.std.specs.Option.{option_map_or}
use Rattle.ltm_network.specs.Network.{tail_of, head_of, in_links, out_links, in_link, out_link, in_place, out_place}
use Rattle.ltm_diagram.specs.declared.diagram.Diagram.{Diagram}
use Rattle.ltm_diagram.specs.declared.diagram.Limits.{Limits}
use Rattle.ltm_diagram.specs.declared.diagram.DiagramFault.{DiagramFault}
use Rattle.ltm_diagram.specs.Limits.{limits_of}
use Rattle.ltm_diagram.specs.Passing.{capacity_in}
use Rattle.ltm_demand.specs.declared.row.DemandRow.{DemandRow}
use Rattle.ltm_demand.specs.Produced.{by_end}
use Rattle.ltm_splits.specs.Rows.{SplitRow, row_in_force}
use Rattle.ltm_scenario.specs.Limits.{limit_at}
use Rattle.ltm_scenario.specs.Data.{ScenarioData}
use Rattle.ltm_scenario.specs.Reads.{destination_node, destination_of}
use Rattle.ltm_loading.specs.Setting.{Setting}

-- the limits of a diagram that sets none
abbrev pub no_limits : Limits
no_limits = record { free_ms = 0; wave_ms = 0; capacity = 0; rest = 0; whole = 1; storage = 0 }

abbrev pub or_no_limits : Result Limits DiagramFault → Limits
or_no_limits (Ok limits) = limits
or_no_limits (Err fault) = no_limits

-- the limits that a diagram sets at a step, with what is left over of capacities carried or not
abbrev pub set_by : ℕ → Bool → Option Diagram → Limits
set_by step carry None = no_limits
set_by step carry (Some diagram) = or_no_limits (limits_of diagram step carry)

-- the limits of a link
abbrev pub limits_at : ScenarioData → ℕ → Limits
limits_at s link = set_by s.setup.step.0 s.setup.carry (slice_get s.diagrams link)

-- what a node has produced of a destination by a boundary: nothing by the first, and by each later one what its demand
-- has produced by the end of the slot before
abbrev pub produced_by : List DemandRow → ℕ → ℕ → ℕ → ℕ
produced_by rows node destination boundary = if boundary == 0 then 0 else by_end rows node destination (boundary - 1)

-- the weight in force of an out-link by its place, 0 where no row is in force
abbrev pub weight_in_force : List SplitRow → ℕ → ℕ → ℕ → ℕ → ℕ
weight_in_force rows node destination slot place =
    option_map_or (λ weights. slice_index weights place) (row_in_force rows node destination slot) 0

-- what a loading reads of a scenario
unfoldable pub setting_of : ScenarioData → Setting
setting_of s = record {
  step = s.setup.step.0;
  slots = s.setup.slots;
  nodes = length s.network.nodes;
  links = length s.network.links;
  destinations = length s.destinations;
  origin_capacity = s.setup.origin_capacity.0;
  by_turn = s.setup.by_turn;
  tail = tail_of s.network;
  head = head_of s.network;
  ins = λ u. length (in_links s.network u);
  in_link = in_link s.network;
  in_place = in_place s.network;
  outs = λ u. length (out_links s.network u);
  out_link = out_link s.network;
  out_place = out_place s.network;
  free_time = λ l. (limits_at s l).free_ms;
  wave_time = λ l. (limits_at s l).wave_ms;
  capacity = λ l. capacity_in (limits_at s l);
  storage = λ l. (limits_at s l).storage;
  entry_limit = limit_at s.entry;
  exit_limit = limit_at s.exit;
  own = destination_of s.destinations;
  place = destination_node s;
  produced = produced_by s.demand;
  weight = weight_in_force s.splits;
}
