-- Reaches: slots of nodes, and short lists of them.
use Rattle.std.specs.Prelude.{ℕ, ◌==◌, ◌&&◌, Bool, nat_le, nat_lt, List, [], Option, None}
use Rattle.std.specs.List.{list_any}
use Rattle.ltm_units.specs.declared.places.Reach.{Reach}

-- the slots of a node from one up to, and without, another
abbrev pub reach : ℕ → ℕ → ℕ → Reach
reach node from to = record { node = record { 0 = node }; from = from; to = to }

-- the pair lies in the reach
abbrev pub lies_in : ℕ → ℕ → Reach → Bool
lies_in node slot r = (r.node.0 == node) && (nat_le r.from slot && nat_lt slot r.to)

-- the pair lies in one of the reaches
abbrev pub lies_in_one : List Reach → ℕ → ℕ → Bool
lies_in_one reaches node slot = list_any (lies_in node slot) reaches

-- reaches, and the slots, from one up to and without another, of which the pairs of all nodes are new
pub record SpreadData : Type 0 where
  pub reaches : List Reach
  pub all_new : Option (ℕ × ℕ)

abbrev pub no_spread : SpreadData
no_spread = record { reaches = []; all_new = None }
