-- Roads as a search goes over them, from the destination.
use Rattle.std.specs.Prelude.{ℕ, ◌+◌, ◌*◌, Some}
use Rattle.ltm_units.specs.Bounds.{longest_time}
use Rattle.ltm_search.specs.Ways.{Ways}
use Rattle.ltm_routes.specs.Roads.{Roads}

-- who comes to a link's head at a moment comes to its tail a free-flow time later
abbrev pub backward : Roads → Ways
backward r = record { nodes = r.nodes; links = r.links; tail = r.head; head = r.tail; leaves = λ link moment. Some (moment + r.free_time link) }

-- over so many links, each of the longest time
abbrev pub longest_by : ℕ → ℕ
longest_by links = longest_time * links
