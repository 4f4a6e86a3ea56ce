-- The route splits that a scenario lacks.
use Rattle.std.specs.Prelude.{ℕ, ◌&&◌, not, Bool, List, [], ◌∷◌, map, length, if◌then◌else◌, Result}
use Rattle.std.specs.List.{range_with_len}
use Rattle.ltm_splits.specs.declared.keys.SplitFault.{SplitFault}
use Rattle.ltm_splits.specs.Rows.{SplitRow, key_of}
use Rattle.ltm_scenario.specs.Data.{ScenarioData}
use Rattle.ltm_scenario.specs.Reads.{has_split}
use Rattle.ltm_routes.specs.Split.{RoutesData, is_routed, route_split, lists_below, with_splits}
use Rattle.ltm_routes.specs.Least.{routes_of}

-- the routes to each destination
abbrev pub all_routes_of : ScenarioData → List RoutesData
all_routes_of s = map (routes_of s) (range_with_len 0 (length s.destinations))

-- a node that has a route, and has no row for the destination in any slot
abbrev pub is_missing : ScenarioData → ℕ → RoutesData → ℕ → Bool
is_missing s destination routes node = not (has_split s.splits node destination) && is_routed s destination routes node

-- its route split
abbrev pub missing_from : ScenarioData → ℕ → RoutesData → ℕ → List SplitRow
missing_from s destination routes node =
    if is_missing s destination routes node then (key_of node destination 0, route_split s routes node) ∷ [] else []

-- those of a destination, in order of node
abbrev pub missing_to : ScenarioData → ℕ → RoutesData → List SplitRow
missing_to s destination routes = lists_below (length s.network.nodes) (missing_from s destination routes)

-- those of all destinations, in order of destination, then of node
abbrev pub missing_splits : ScenarioData → List SplitRow
missing_splits s = lists_below (length s.destinations) (λ destination. missing_to s destination (routes_of s destination))

-- the scenario in which each node without a row for a destination has its route split from slot 0 on
unfoldable pub with_routes : ScenarioData → Result ScenarioData SplitFault
with_routes s = with_splits s (missing_splits s)
