-- Routes, and the least times along them.
use Rattle.std.specs.Prelude.{ℕ, ◌≡◌, ◌<◌, ◌≤◌, ◌+◌, List, [], ◌∷◌, sum_by, Option, Some, None}
use Rattle.ltm_units.specs.declared.quantities.Millis.{Millis}
use Rattle.ltm_routes.specs.Roads.{Roads}

-- the links lead from one node to another, each beginning where the one before ended
abbrev pub IsRoute : Roads → ℕ → ℕ → List ℕ → Type 0
IsRoute r from to [] = from ≡ to
IsRoute r from to (link ∷ links) = (link < r.links) × (r.tail link ≡ from) × IsRoute r (r.head link) to links

-- the sum of their free-flow times
abbrev pub time_of : Roads → List ℕ → ℕ
time_of r links = sum_by r.free_time links

-- a route takes that time, and no route is shorter
pub record IsLeast (r : Roads) (from to time : ℕ) : Type 0 where
  pub taken : (links : List ℕ) × IsRoute r from to links × (time_of r links ≡ time)
  pub least : (links : List ℕ) → IsRoute r from to links → time ≤ time_of r links

-- the least time of a route from one node to another, none where there is no route
abbrev pub IsLeastTime : Roads → ℕ → ℕ → Option Millis → Type 0
IsLeastTime r from to None = (links : List ℕ) → IsRoute r from to links → ⊥
IsLeastTime r from to (Some time) = IsLeast r from to time.0

-- a least route begins with the link: its time and the least time from its head are the least time from its tail
pub record Begins (r : Roads) (to link : ℕ) : Type 0 where
  pub from_tail : ℕ
  pub from_head : ℕ
  pub least_from_tail : IsLeast r (r.tail link) to from_tail
  pub least_from_head : IsLeast r (r.head link) to from_head
  pub sum : r.free_time link + from_head ≡ from_tail
