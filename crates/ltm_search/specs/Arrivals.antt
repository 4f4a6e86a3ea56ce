-- The arrivals that a search finds.
use Rattle.std.specs.Prelude.{ℕ, ◌≡◌, ◌<◌, ◌≤◌, List, slice_index_or, Option, None, Some, option_map}
use Rattle.ltm_units.specs.declared.quantities.Millis.{Millis}
use Rattle.ltm_search.specs.declared.search.Search.{Search}
use Rattle.ltm_search.specs.Ways.{Ways, IsEarliest}

-- an arrival at each node, or none
abbrev pub arrivals_of : Search → List (Option Millis)
arrivals_of search = search.arrivals.items

abbrev pub arrival_at : List (Option Millis) → ℕ → Option Millis
arrival_at a node = slice_index_or a node None

abbrev pub millis_of : Option Millis → Option ℕ
millis_of = option_map (λ time. time.0)

-- each is the earliest of one who sets out from a node at a moment
abbrev pub AreEarliest : Ways → ℕ → ℕ → List (Option Millis) → Type 0
AreEarliest w from start a = (node : ℕ) → node < w.nodes → IsEarliest w from start node (millis_of (arrival_at a node))

-- none is after a moment
abbrev pub AreBy : ℕ → List (Option Millis) → Type 0
AreBy last a = (node : ℕ) (time : Millis) → arrival_at a node ≡ Some time → time.0 ≤ last
