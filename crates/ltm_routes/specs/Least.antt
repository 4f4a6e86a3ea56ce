-- The least times of routes, reckoned: over routes of at most so many links.
use Rattle.std.specs.Prelude.{ℕ, ◌+◌, ◌==◌, zero, suc, min, map, if◌then◌else◌, List, Option, None, Some, option_map}
use Rattle.std.specs.List.{range_with_len}
use Rattle.ltm_units.specs.declared.quantities.Millis.{Millis}
use Rattle.ltm_scenario.specs.Data.{ScenarioData}
use Rattle.ltm_scenario.specs.Reads.{destination_node}
use Rattle.ltm_routes.specs.Roads.{Roads, roads_of}
use Rattle.ltm_routes.specs.Potentials.{is_tight_over}
use Rattle.ltm_routes.specs.Split.{RoutesData}

-- the lesser of two times, either of which may be none
abbrev pub lesser : Option ℕ → Option ℕ → Option ℕ
lesser None b = b
lesser (Some a) None = Some a
lesser (Some a) (Some b) = Some (min a b)

-- the least time from a node by one of the first links, given the times from their heads
abbrev pub least_by : Roads → (ℕ → Option ℕ) → ℕ → ℕ → Option ℕ
least_by r from node zero = None
least_by r from node (suc link) = lesser (least_by r from node link) (if r.tail link == node then option_map (λ time. r.free_time link + time) (from (r.head link)) else None)

-- the least time of a route of at most n links from a node, none where there is no such route
abbrev pub least_within : Roads → ℕ → ℕ → ℕ → Option ℕ
least_within r to zero node = if node == to then Some 0 else None
least_within r to (suc n) node = lesser (least_within r to n node) (least_by r (least_within r to n) node r.links)

abbrev pub millis_of : ℕ → Millis
millis_of time = record { 0 = time }

-- a least route comes to no node twice, so it has no more links than there are nodes
abbrev pub least_times_of : Roads → ℕ → List (Option Millis)
least_times_of r to = map (λ node. option_map millis_of (least_within r to r.nodes node)) (range_with_len 0 r.nodes)

-- these times, and for each link whether the times at its ends differ by just its own
abbrev pub routes_over : Roads → ℕ → RoutesData
routes_over r to = record { potentials = least_times_of r to; begins = map (is_tight_over r (least_times_of r to)) (range_with_len 0 r.links) }

-- the routes to a destination
unfoldable pub routes_of : ScenarioData → ℕ → RoutesData
routes_of s destination = routes_over (roads_of s) (destination_node s destination)
