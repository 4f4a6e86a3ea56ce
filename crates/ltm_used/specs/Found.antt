-- Numbers that are found, and what follows from one.
use Rattle.std.specs.Prelude.{◌≡◌, ℕ, ◌+◌, ◌*◌, ◌<◌, ◌≤◌, List, length, slice_index}
use Rattle.ltm_loading.specs.Setting.{Setting, IsSetting}
use Rattle.ltm_used.specs.Closed.{IsIn, HasDemand, Leads, AreClosed}
use Rattle.ltm_used.specs.declared.found.Found.{Found}

abbrev pub size_of : Found → ℕ
size_of f = length f.marks.items

abbrev pub count_of : Found → ℕ
count_of f = length f.order.items

abbrev pub is_found : Found → ℕ → Type 0
is_found f k = 0 < slice_index f.marks.items k

abbrev pub number_at : Found → ℕ → ℕ
number_at f place = slice_index f.order.items place

-- what was found stays so, at its place
pub record Grows (old new : Found) : Type 0 where
  pub size : size_of new ≡ size_of old
  pub keeps : (k : ℕ) → is_found old k → is_found new k
  pub longer : count_of old ≤ count_of new
  pub order : (j : ℕ) → j < count_of old → number_at new j ≡ number_at old j

-- a number is found
pub record Finds (old new : Found) (k : ℕ) : Type 0 where
  pub grows : Grows old new
  pub here : is_found new k

-- the number of a link and a destination
abbrev pub number_of : Setting → ℕ → ℕ → ℕ
number_of s l d = l * s.destinations + d

-- all by which a node sends a destination on is found; `goes` marks the links that are taken for a destination
abbrev pub GoesOn : Setting → List ℕ → Found → ℕ → ℕ → Type 0
GoesOn s goes f u d = (j : ℕ) → j < s.outs u → 0 < slice_index goes (number_of s (s.out_link u j) d) → is_found f (number_of s (s.out_link u j) d)

-- all that goes on from a link for a destination is found
abbrev pub IsDone : Setting → List ℕ → Found → ℕ → ℕ → Type 0
IsDone s goes f l d = GoesOn s goes f (s.head l) d

-- and so of each that is found
abbrev pub IsClosedUnder : Setting → List ℕ → Found → Type 0
IsClosedUnder s goes f = (l d : ℕ) → l < s.links → d < s.destinations → is_found f (number_of s l d) → IsDone s goes f l d

-- of each node, destination and out-link by which it sends something in some slot, the link is taken for the destination
abbrev pub MarksLeads : Setting → List ℕ → Type 0
MarksLeads s goes = (u d j : ℕ) → u < s.nodes → d < s.destinations → j < s.outs u → Leads s u d j → 0 < slice_index goes (number_of s (s.out_link u j) d)

-- what nodes send by marked links of what they produce is found
abbrev pub AreRooted : Setting → List ℕ → Found → Type 0
AreRooted s goes f = (u d : ℕ) → u < s.nodes → d < s.destinations → HasDemand s u d → GoesOn s goes f u d

-- what origins send of what they produce is found
abbrev pub HasRoots : Setting → Found → Type 0
HasRoots s f = (u d j : ℕ) → u < s.nodes → d < s.destinations → j < s.outs u → HasDemand s u d → Leads s u d j → is_found f (number_of s (s.out_link u j) d)

-- of each link a list of the destinations that are found
abbrev pub AreListsOf : Setting → Found → (ℕ → List ℕ) → Type 0
AreListsOf s f lists =
    (l d : ℕ) → l < s.links → d < s.destinations → (is_found f (number_of s l d) → IsIn (lists l) d) × (IsIn (lists l) d → is_found f (number_of s l d))

-- lists of what is found are closed, where the roots are found and all that goes on from them
abbrev pub FoundAreClosed : Type 0
FoundAreClosed =
    (s : Setting) (goes : List ℕ) (f : Found) (lists : ℕ → List ℕ) → IsSetting s → MarksLeads s goes → HasRoots s f → IsClosedUnder s goes f → AreListsOf s f lists → AreClosed s lists
