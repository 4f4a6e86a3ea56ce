-- What is found step by step, in the words of a loading and of the tables of this crate.
use Rattle.std.specs.Prelude.{ℕ, ◌≡◌, ◌<◌, ◌≤◌, ◌+◌, ◌*◌, ◌^◌, ◌&&◌, true, nat_le, nat_lt, List, length, slice_index_or, Option, Some, None, IfSome}
use Rattle.ltm_units.specs.Bounds.{most_slots, longest_step}
use Rattle.ltm_units.specs.Numbers.{first_below}
use Rattle.ltm_units.specs.Sums.{sum_below}
use Rattle.ltm_units.specs.declared.quantities.Millis.{Millis}
use Rattle.ltm_curve.specs.Counts.{Counts}
use Rattle.ltm_scenario.specs.Data.{ScenarioData}
use Rattle.ltm_loading.specs.Setting.{Setting}
use Rattle.ltm_setting.specs.Setting.{setting_of}
use Rattle.ltm_flows.specs.declared.loading.Loading.{Loading}
use Rattle.ltm_flows.specs.Origins.{produced_in_all}
use Rattle.ltm_flows.specs.Shown.{step_of, last_of, ShowsCounts}
use Rattle.ltm_flows.specs.Counted.{departed_by, entered_by, left_by}
use Rattle.ltm_search.specs.declared.search.Search.{Search}
use Rattle.ltm_search.specs.Ways.{Ways}
use Rattle.ltm_search.specs.Arrivals.{arrivals_of, arrival_at, millis_of, AreBy}
use Rattle.ltm_gap.specs.declared.sums.Sum.{Sum}
use Rattle.ltm_gap.specs.declared.pair.Pair.{Pair}
use Rattle.ltm_gap.specs.Leaving.{end_of, lets_out, leaves_by, first_from}
use Rattle.ltm_gap.specs.Earliest.{earliest}
use Rattle.ltm_gap.specs.declared.cutting.Cut.{Cut}
use Rattle.ltm_gap.specs.Gaps.{units_in, arriving, twice_in, late_in}

-- ---- slots and moments
-- the first slot from one on with a limit above 0
unfoldable pub first_open : (ℕ → ℕ) → ℕ → ℕ → Option ℕ
first_open limit slots from = first_below (λ t. nat_le from t && nat_lt 0 (limit t)) slots

-- the first moment from one on at which a link lets out
unfoldable pub first_out : Setting → ℕ → ℕ → Option ℕ
first_out s link moment = first_below (λ m. nat_le moment m && lets_out s link m) (end_of s + 1)

-- no moment of a loading is later
abbrev pub last_moment : ℕ
last_moment = most_slots * longest_step

-- ---- as they are read from a loading, of every loading that has the sizes of a scenario
abbrev pub read_leaves : Setting → Loading → ℕ → ℕ → Option ℕ
read_leaves s l link = leaves_by s link (entered_by l link) (left_by l link)

abbrev pub read_starts : Loading → ℕ → ℕ → ℕ → Option ℕ
read_starts l origin slot number = first_from (departed_by l origin) (step_of l) (last_of l) number (slot * step_of l)

abbrev pub read_ways : Setting → Loading → Ways
read_ways s l = record { nodes = s.nodes; links = s.links; tail = s.tail; head = s.head; leaves = read_leaves s l }

abbrev pub ways_of : ScenarioData → Loading → Ways
ways_of s l = read_ways (setting_of s) l

-- ---- searches
-- the arrivals are the earliest at the link times of the loading that is shown
abbrev pub HasEarliest : Setting → Loading → ℕ → ℕ → ℕ → List (Option Millis) → Type 0
HasEarliest s l origin slot number a = (version : ℕ) (c : Counts) → ShowsCounts s version c l
    → (node : ℕ) → node < s.nodes → millis_of (arrival_at a node) ≡ earliest s c origin slot number node

-- a search has an arrival for each node, or none, within the loading
pub record IsFilled (s : Setting) (search : Search) : Type 0 where
  pub one_for_each : length (arrivals_of search) ≡ s.nodes
  pub small : AreBy last_moment (arrivals_of search)

-- it was made for the unit of a number, which an origin produces in a slot
pub record IsFrom (s : Setting) (l : Loading) (origin slot number : ℕ) (search : Search) : Type 0 where
  pub filled : IsFilled s search
  pub earliest : HasEarliest s l origin slot number (arrivals_of search)

-- it was made for the unit that is produced at a boundary
abbrev pub IsAt : Setting → Loading → ℕ → ℕ → Search → Type 0
IsAt s l origin boundary = IsFrom s l origin boundary (produced_in_all s origin boundary)

-- three searches, of which the first was made for a boundary where that is said
pub record IsPair (s : Setting) (l : Loading) (origin boundary : ℕ) (pair : Pair) : Type 0 where
  pub first_long : length (arrivals_of pair.first) ≡ s.nodes
  pub last_long : length (arrivals_of pair.last) ≡ s.nodes
  pub within_long : length (arrivals_of pair.within) ≡ s.nodes
  pub known : pair.known ≡ true → IsAt s l origin boundary pair.first

-- three searches, of which two were made for the two ends of a slot
pub record IsFound (s : Setting) (l : Loading) (origin slot : ℕ) (pair : Pair) : Type 0 where
  pub first : IsAt s l origin slot pair.first
  pub last : IsAt s l origin (slot + 1) pair.last
  pub within_long : length (arrivals_of pair.within) ≡ s.nodes

-- three searches of which nothing is known
pub record IsIdle (s : Setting) (pair : Pair) : Type 0 where
  pub first_long : length (arrivals_of pair.first) ≡ s.nodes
  pub last_long : length (arrivals_of pair.last) ≡ s.nodes
  pub within_long : length (arrivals_of pair.within) ≡ s.nodes

-- ---- where a slot is cut
-- a moment, or none, is the earliest arrival of the unit of a number
pub record IsArrival (s : Setting) (l : Loading) (origin slot number node : ℕ) (time : Option Millis) : Type 0 where
  pub is : (version : ℕ) (c : Counts) → ShowsCounts s version c l → millis_of time ≡ earliest s c origin slot number node
  pub small : IfSome time (λ (t : Millis). t.0 ≤ last_moment)

-- so many units of a slot arrive, and the last of them then
pub record IsCut (s : Setting) (l : Loading) (origin slot node : ℕ) (cut : Cut) : Type 0 where
  pub few : cut.arriving ≤ units_in s origin slot
  pub arriving : (version : ℕ) (c : Counts) → ShowsCounts s version c l → cut.arriving ≡ arriving s c node origin slot
  pub last : IsArrival s l origin slot (produced_in_all s origin slot + cut.arriving) node cut.last

-- the unit of the lower number arrives, and that of the higher does not, or is none of the slot's
pub record IsBetween (s : Setting) (l : Loading) (origin slot node : ℕ) (last : Millis) (low high : ℕ) : Type 0 where
  pub from : produced_in_all s origin slot ≤ low
  pub below : low < high
  pub to : high ≤ produced_in_all s origin (slot + 1) + 1
  pub arrives : IsArrival s l origin slot low node (Some last)
  pub late : (version : ℕ) (c : Counts) → ShowsCounts s version c l → high ≤ produced_in_all s origin (slot + 1) → earliest s c origin slot high node ≡ None

-- ---- sums by destination
abbrev pub no_sum : Sum
no_sum = record { twice = 0; late = 0 }

abbrev pub sum_at : List Sum → ℕ → Sum
sum_at sums destination = slice_index_or sums destination no_sum

-- no sum is greater than so many parts of the greatest size
abbrev pub AreSums : ℕ → List Sum → Type 0
AreSums parts sums = (d : ℕ) → ((sum_at sums d).twice ≤ parts * 2 ^ 84) × ((sum_at sums d).late ≤ parts * 2 ^ 53)

-- those who are produced at an origin in a slot for a destination were added to a sum
pub record IsMore (s : Setting) (l : Loading) (origin slot d : ℕ) (old new : Sum) : Type 0 where
  pub twice_more : (version : ℕ) (c : Counts) → ShowsCounts s version c l → new.twice ≡ old.twice + twice_in s c d origin slot
  pub late_more : (version : ℕ) (c : Counts) → ShowsCounts s version c l → new.late ≡ old.late + late_in s c d origin slot
  pub small_twice : new.twice ≤ old.twice + 2 ^ 84
  pub small_late : new.late ≤ old.late + 2 ^ 53

-- it was added to the destinations below one, and the others are as before
pub record AddsBelow (s : Setting) (l : Loading) (origin slot : ℕ) (below : ℕ) (old new : List Sum) : Type 0 where
  pub count : length new ≡ length old
  pub added : (d : ℕ) → d < below → IsMore s l origin slot d (sum_at old d) (sum_at new d)
  pub others : (d : ℕ) → below ≤ d → sum_at new d ≡ sum_at old d

-- to each destination something is added that a loading's counts determine
pub record Adds (s : Setting) (l : Loading) (twice late : Counts → ℕ → ℕ) (old new : List Sum) : Type 0 where
  pub twice_more : (version : ℕ) (c : Counts) → ShowsCounts s version c l → (d : ℕ) → d < s.destinations → (sum_at new d).twice ≡ (sum_at old d).twice + twice c d
  pub late_more : (version : ℕ) (c : Counts) → ShowsCounts s version c l → (d : ℕ) → d < s.destinations → (sum_at new d).late ≡ (sum_at old d).late + late c d

-- those who are produced at an origin in a slot, and in the first slots
abbrev pub AddsSlot : Setting → Loading → ℕ → ℕ → List Sum → List Sum → Type 0
AddsSlot s l origin slot = Adds s l (λ c d. twice_in s c d origin slot) (λ c d. late_in s c d origin slot)

abbrev pub AddsSlots : Setting → Loading → ℕ → ℕ → List Sum → List Sum → Type 0
AddsSlots s l origin slots = Adds s l (λ c d. sum_below slots (twice_in s c d origin)) (λ c d. sum_below slots (late_in s c d origin))
