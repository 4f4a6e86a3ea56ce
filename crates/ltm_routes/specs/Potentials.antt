-- Potentials: for each node a time to the destination, or none.
use Rattle.std.specs.Prelude.{ℕ, ◌≡◌, ◌≢◌, ◌<◌, ◌≤◌, ◌+◌, ◌==◌, Bool, true, false, nat_le, List, slice_index_or, Option, Some, None, IsSome, IfSome}
use Rattle.ltm_units.specs.declared.quantities.Millis.{Millis}
use Rattle.ltm_routes.specs.Roads.{Roads}
use Rattle.ltm_routes.specs.Routes.{IsRoute, time_of, IsLeastTime}

abbrev pub potential_at : List (Option Millis) → ℕ → Option Millis
potential_at p node = slice_index_or p node None

-- each potential is the least time of a route from its node
abbrev pub AreLeastTimes : Roads → ℕ → List (Option Millis) → Type 0
AreLeastTimes r to p = (node : ℕ) → node < r.nodes → IsLeastTime r node to (potential_at p node)

-- each potential is the time of a route
abbrev pub AreTaken : Roads → ℕ → List (Option Millis) → Type 0
AreTaken r to p = (node : ℕ) (time : Millis) → node < r.nodes → potential_at p node ≡ Some time → (links : List ℕ) × IsRoute r node to links × (time_of r links ≡ time.0)

-- ---- what is looked at link by link
abbrev pub is_zero : Option Millis → Bool
is_zero None = false
is_zero (Some time) = time.0 == 0

-- a potential at a link's head gives one at its tail, greater by at most the link's time
abbrev pub fits : Option Millis → ℕ → Option Millis → Bool
fits tail time None = true
fits None time (Some head) = false
fits (Some tail) time (Some head) = nat_le tail.0 (time + head.0)

-- the potential at the tail is greater by just the link's time
abbrev pub is_tight : Option Millis → ℕ → Option Millis → Bool
is_tight None time head = false
is_tight (Some tail) time None = false
is_tight (Some tail) time (Some head) = tail.0 == time + head.0

abbrev pub fits_over : Roads → List (Option Millis) → ℕ → Bool
fits_over r p link = fits (potential_at p (r.tail link)) (r.free_time link) (potential_at p (r.head link))

abbrev pub is_tight_over : Roads → List (Option Millis) → ℕ → Bool
is_tight_over r p link = is_tight (potential_at p (r.tail link)) (r.free_time link) (potential_at p (r.head link))

abbrev pub AllFit : Roads → List (Option Millis) → Type 0
AllFit r p = (link : ℕ) → link < r.links → fits_over r p link ≡ true

-- a link that leaves the node is tight
abbrev pub LeadsOn : Roads → List (Option Millis) → ℕ → Type 0
LeadsOn r p node = (link : ℕ) × (link < r.links) × (r.tail link ≡ node) × (is_tight_over r p link ≡ true)

-- from each other node with a potential a tight link leads on
abbrev pub AllLeadOn : Roads → ℕ → List (Option Millis) → Type 0
AllLeadOn r to p = (node : ℕ) → node < r.nodes → node ≢ to → IsSome (potential_at p node) → LeadsOn r p node

-- no potential is greater than 2^47 ms
abbrev pub IsSmall : Option Millis → Type 0
IsSmall potential = IfSome potential (λ time. time.0 ≤ 562949953421312)
