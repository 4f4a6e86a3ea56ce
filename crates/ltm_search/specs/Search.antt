-- A search, as far as it has come.
use Rattle.std.specs.Prelude.{ℕ, ◌≡◌, ◌<◌, ◌≤◌, ◌+◌, ◌*◌, ◌⊎◌, ◌==◌, Bool, true, false, nat_lt, nat_le, List, [], ◌∷◌, length, sum_by, All, Contains, Option, Some, None}
use Rattle.std.specs.BinaryHeap.{heap_items}
use Rattle.ltm_units.specs.declared.quantities.Millis.{Millis}
use Rattle.ltm_search.specs.declared.search.Waiting.{Waiting}
use Rattle.ltm_search.specs.declared.search.Search.{Search}
use Rattle.ltm_search.specs.Ways.{Ways, IsRoute, arrival}
use Rattle.ltm_search.specs.Arrivals.{arrival_at}

abbrev pub millis : ℕ → Millis
millis time = record { 0 = time }

-- the first moment is there, and is not later
abbrev pub is_by : Option Millis → ℕ → Bool
is_by None time = false
is_by (Some t) time = nat_le t.0 time

-- each arrival is that of a route
abbrev pub AreTaken : Ways → ℕ → ℕ → List (Option Millis) → Type 0
AreTaken w from start a = (node : ℕ) (time : Millis) → node < w.nodes → arrival_at a node ≡ Some time
    → (links : List ℕ) × IsRoute w from node links × (arrival w links start ≡ Some time.0)

-- who comes to a link's tail and passes the link does not come to its head before
abbrev pub fits_at : Option ℕ → Option Millis → Bool
fits_at None head = true
fits_at (Some time) head = is_by head time

abbrev pub fits : Option Millis → (ℕ → Option ℕ) → Option Millis → Bool
fits None leaves head = true
fits (Some tail) leaves head = fits_at (leaves tail.0) head

abbrev pub fits_over : Ways → List (Option Millis) → ℕ → Bool
fits_over w a link = fits (arrival_at a (w.tail link)) (w.leaves link) (arrival_at a (w.head link))

abbrev pub AllFit : Ways → List (Option Millis) → Type 0
AllFit w a = (link : ℕ) → link < w.links → fits_over w a link ≡ true

-- a node that waits for a look at the links that leave it, with its arrival
abbrev pub waiting : ℕ → ℕ → Waiting
waiting time node = record { time = record { 0 = time }; node = node }

-- no node waits
abbrev pub IsIdle : Search → Type 0
IsIdle s = heap_items s.waiting ≡ []

abbrev pub IsWaiting : List Waiting → ℕ → Option Millis → Type 0
IsWaiting q node None = ⊥
IsWaiting q node (Some time) = Contains q (waiting time.0 node)

-- how many nodes have an arrival
abbrev pub one_if : Option Millis → ℕ
one_if None = 0
one_if (Some time) = 1

abbrev pub found : List (Option Millis) → ℕ
found a = sum_by one_if a

-- the arrivals are those of routes, within the bound of as many links as nodes were found; and over each link they fit, or its
-- tail waits, or it is one of those left to be looked at
pub record IsSearch (w : Ways) (bound : ℕ → ℕ) (from start : ℕ) (a : List (Option Millis)) (q : List Waiting) (left : List ℕ) : Type 0 where
  pub one_for_each : length a ≡ w.nodes
  pub begun : is_by (arrival_at a from) start ≡ true
  pub taken : AreTaken w from start a
  pub small : (node : ℕ) (time : Millis) → arrival_at a node ≡ Some time → time.0 ≤ bound (found a)
  pub waits : All (λ x. x.node < w.nodes) q
  pub fits : (link : ℕ) → link < w.links → (fits_over w a link ≡ true) ⊎ (IsWaiting q (w.tail link) (arrival_at a (w.tail link)) ⊎ Contains left link)

-- a search stands so, with links left to be looked at
abbrev pub Searches : Ways → (ℕ → ℕ) → Search → List ℕ → Type 0
Searches w bound s left = IsSearch w bound s.first.node s.first.time.0 s.arrivals.items (heap_items s.waiting) left

-- a node that waited has been taken off
abbrev pub Looks : Ways → (ℕ → ℕ) → Search → Waiting → Type 0
Looks w bound s next = IsSearch w bound s.first.node s.first.time.0 s.arrivals.items (next ∷ heap_items s.waiting) []

-- its arrival is that with which it was put to wait, and some of the links that leave it are left
pub record Visits (w : Ways) (bound : ℕ → ℕ) (s : Search) (next : Waiting) (left : List ℕ) : Type 0 where
  pub search : Searches w bound s left
  pub current : arrival_at s.arrivals.items next.node ≡ Some (millis next.time.0)

-- a link leaves it, and it waited within the bound
pub record LooksAt (w : Ways) (bound : ℕ → ℕ) (s : Search) (next : Waiting) (link : ℕ) : Type 0 where
  pub one_for_each : length s.arrivals.items ≡ w.nodes
  pub low : link < w.links
  pub tail : w.tail link ≡ next.node
  pub moment : next.time.0 ≤ bound w.nodes

-- the node has no arrival, or a later one
abbrev pub is_earlier : Option Millis → ℕ → Bool
is_earlier None time = true
is_earlier (Some old) time = nat_lt time old.0

-- the arrival is just that moment
abbrev pub is_current : Option Millis → ℕ → Bool
is_current None time = false
is_current (Some now) time = now.0 == time

-- what falls with each node that is looked at: twice the arrivals, where none counts as more than the last, and the nodes that
-- wait
abbrev pub height : ℕ → Option Millis → ℕ
height last None = last + 1
height last (Some time) = time.0

abbrev pub effort_of : ℕ → List (Option Millis) → List Waiting → ℕ
effort_of last a q = 2 * sum_by (height last) a + length q

abbrev pub effort : Ways → (ℕ → ℕ) → Search → ℕ
effort w bound s = effort_of (bound (w.nodes + 1)) s.arrivals.items (heap_items s.waiting)

abbrev pub IsNoMore : Ways → (ℕ → ℕ) → Search → Search → Type 0
IsNoMore w bound old new = effort w bound new ≤ effort w bound old
