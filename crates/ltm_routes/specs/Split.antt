-- The routes to a destination, and the split rows that follow them.
use Rattle.std.specs.Prelude.{ℕ, ◌≡◌, ◌<◌, ◌==◌, ◌&&◌, ◌↔◌, not, Bool, true, false, if◌then◌else◌, is_some, List, [], ◌∷◌, ◌++◌, map, length, slice_index_or, zero, suc, Option, Result, Ok}
use Rattle.ltm_units.specs.declared.quantities.Millis.{Millis}
use Rattle.ltm_network.specs.Network.{out_links}
use Rattle.ltm_splits.specs.declared.keys.SplitFault.{SplitFault}
use Rattle.ltm_splits.specs.Rows.{SplitRow, key_of}
use Rattle.ltm_scenario.specs.Data.{ScenarioData}
use Rattle.ltm_scenario.specs.Reads.{destination_node}
use Rattle.ltm_scenario.specs.Build.{with_split, ◌>>=◌}
use Rattle.ltm_routes.specs.Roads.{Roads, roads_of}
use Rattle.ltm_routes.specs.Routes.{Begins}
use Rattle.ltm_routes.specs.Potentials.{potential_at, AreLeastTimes}

-- for each node the least time to the destination, and for each link whether a least route begins with it
pub record RoutesData : Type 0 where
  pub potentials : List (Option Millis)
  pub begins : List Bool

abbrev pub begins_at : RoutesData → ℕ → Bool
begins_at routes link = slice_index_or routes.begins link false

pub record AreRoutes (r : Roads) (to : ℕ) (routes : RoutesData) : Type 0 where
  pub potential_for_each : length routes.potentials ≡ r.nodes
  pub flag_for_each : length routes.begins ≡ r.links
  pub least : AreLeastTimes r to routes.potentials
  pub begin : (link : ℕ) → link < r.links → (begins_at routes link ≡ true) ↔ Begins r to link

-- ---- the route split of a node: 1 for each out-link with which a least route begins, 0 for the others
abbrev pub weight_of : RoutesData → ℕ → ℕ
weight_of routes link = if begins_at routes link then 1 else 0

abbrev pub route_split : ScenarioData → RoutesData → ℕ → List ℕ
route_split s routes node = map (weight_of routes) (out_links s.network node)

-- a node that has a route, other than the destination itself
abbrev pub is_routed : ScenarioData → ℕ → RoutesData → ℕ → Bool
is_routed s destination routes node = not (node == destination_node s destination) && is_some (potential_at routes.potentials node)

abbrev pub rows_from : ScenarioData → ℕ → RoutesData → ℕ → List SplitRow
rows_from s destination routes node =
    if is_routed s destination routes node then (key_of node destination 0, route_split s routes node) ∷ [] else []

-- the lists of the numbers below n, end to end
abbrev pub lists_below : {A : Type 0} → ℕ → (ℕ → List A) → List A
lists_below zero list = []
lists_below (suc n) list = lists_below n list ++ list n

-- the rows of a destination, in order of node
abbrev pub rows_to : ScenarioData → ℕ → RoutesData → List SplitRow
rows_to s destination routes = lists_below (length s.network.nodes) (rows_from s destination routes)

-- ---- of all destinations
abbrev pub no_routes : RoutesData
no_routes = record { potentials = []; begins = [] }

abbrev pub routes_to : List RoutesData → ℕ → RoutesData
routes_to all destination = slice_index_or all destination no_routes

-- for each of the first destinations its routes
pub record AreFirstRoutes (s : ScenarioData) (count : ℕ) (all : List RoutesData) : Type 0 where
  pub routes_for_each : length all ≡ count
  pub routes : (destination : ℕ) → destination < count → AreRoutes (roads_of s) (destination_node s destination) (routes_to all destination)

-- for each destination
abbrev pub AreAllRoutes : ScenarioData → List RoutesData → Type 0
AreAllRoutes s all = AreFirstRoutes s (length s.destinations) all

-- the route splits of all destinations, in order of destination, then of node
abbrev pub route_splits : ScenarioData → List RoutesData → List SplitRow
route_splits s all = lists_below (length s.destinations) (λ destination. rows_to s destination (routes_to all destination))

-- the scenario with these rows, set one after the other
abbrev pub with_splits : ScenarioData → List SplitRow → Result ScenarioData SplitFault
with_splits s [] = Ok s
with_splits s (row ∷ rows) = with_split s row.0 row.1 >>= λ next. with_splits next rows

-- nothing but split rows was changed
abbrev pub KeepsRest : ScenarioData → ScenarioData → Type 0
KeepsRest s next = next ≡ record s { splits = next.splits }

-- ---- flags that a test gives
pub record AreFlags (count : ℕ) (test : ℕ → Bool) (flags : List Bool) : Type 0 where
  pub flag_for_each : length flags ≡ count
  pub each : (place : ℕ) → place < count → slice_index_or flags place false ≡ test place
