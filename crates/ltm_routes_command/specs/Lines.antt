-- The lines of routes: for each split row its record in `splits.csv`, or the time of its routes.
use Rattle.std.specs.Prelude.{ℕ, ◌==◌, if◌then◌else◌, List, [], ◌∷◌, ◌++◌, length, map, Option, Some, None}
use Rattle.std.specs.List.{flat_map}
use Rattle.ltm_units.specs.declared.quantities.Millis.{Millis}
use Rattle.ltm_network.specs.Network.{NetworkData, out_links, link_name, node_name}
use Rattle.ltm_splits.specs.Rows.{SplitRow}
use Rattle.ltm_scenario.specs.Data.{ScenarioData}
use Rattle.ltm_scenario.specs.Reads.{destination_name}
use Rattle.ltm_report.specs.Routes.{splits_header_line, route_row_line, route_time_line}
use Rattle.ltm_routes.specs.Potentials.{potential_at}
use Rattle.ltm_routes.specs.Split.{RoutesData, rows_to, routes_to, lists_below}
use Rattle.ltm_routes_command.specs.declared.lines.RouteLines.{RouteLines}
use Rattle.ltm_routes_command.specs.declared.lines.RouteLines.TheVariants as lines

-- the links with weight 1
abbrev pub sent_over : List ℕ → List ℕ → List ℕ
sent_over [] weights = []
sent_over (link ∷ links) [] = []
sent_over (link ∷ links) (weight ∷ weights) = if weight == 1 then link ∷ sent_over links weights else sent_over links weights

-- their names, in order of link number
abbrev pub names_over : NetworkData → SplitRow → List (List ℕ)
names_over d row = map (link_name d) (sent_over (out_links d row.0.node.0) row.1)

-- the record of a split row, as `n1,n2,0,a=1 c=1`
abbrev pub record_of : ScenarioData → SplitRow → List ℕ
record_of s row = route_row_line (node_name s.network row.0.node.0) (destination_name s row.0.destination) (names_over s.network row)

abbrev pub millis_or_zero : Option Millis → ℕ
millis_or_zero None = 0
millis_or_zero (Some time) = time.0

-- the least time from the node of a split row, by the routes to its destination
abbrev pub least_time_of : RoutesData → SplitRow → ℕ
least_time_of routes row = millis_or_zero (potential_at routes.potentials row.0.node.0)

-- the line of that time, as `from n1 to n2 time 2000`
abbrev pub time_of : ScenarioData → RoutesData → SplitRow → List ℕ
time_of s routes row = route_time_line (node_name s.network row.0.node.0) (destination_name s row.0.destination) (least_time_of routes row)

abbrev pub line_of : RouteLines → ScenarioData → RoutesData → SplitRow → List ℕ
line_of lines.Splits s routes row = record_of s row
line_of lines.Times s routes row = time_of s routes row

-- the lines of a destination's rows, in order of node
abbrev pub lines_to : RouteLines → ScenarioData → RoutesData → ℕ → List ℕ
lines_to lines s routes destination = flat_map (line_of lines s routes) (rows_to s destination routes)

-- what stands before all lines
abbrev pub header_of : RouteLines → List ℕ
header_of lines.Splits = splits_header_line
header_of lines.Times = []

-- a line for each route split, in order of destination, then of node
unfoldable pub routes_text : RouteLines → ScenarioData → List RoutesData → List ℕ
routes_text lines s all =
    header_of lines ++ lists_below (length s.destinations) (λ destination. lines_to lines s (routes_to all destination) destination)
