-- The rule of a desk: what its table is between any two steps.
use Rattle.std.specs.Prelude.{◌≡◌, ◌⊎◌, ℕ, ◌+◌, ◌<◌, ◌≤◌, Bool, true, false, List, [], ◌∷◌, Option, Some}
use Rattle.std.specs.List.{Contains}
use mathlib.Core.List.{IsPrefix}
use mathlib.Core.Option.{some, none}
use lib.ListN.{get_elem?}
use Rattle.atomic_table.specs.Table.{State}
use Rattle.ltm_editors.specs.declared.view.View.{View}
use Rattle.ltm_editors.specs.Lists.{entries_of, HasNoMore, SeesBoth}

-- 1 where it is true, and else 0
abbrev pub one_if : Bool → ℕ
one_if true = 1
one_if false = 0

-- how many views are those of seats that were not joined
abbrev pub living : {O E : Type 0} → List (View O E) → ℕ
living [] = 0
living (v ∷ vs) = one_if v.live + living vs

module _ {T O E : Type 0} (opening : T → O) (history : T → List E) (author : E → ℕ) where
  -- the desk is free: its slot has a value with this history and this opening, and no view holds it
  pub record IsFree (s : State (Option T) (View O E)) (log : List E) (opens : Option O) : Type 0 where
    pub value : T
    pub word : s.words ≡ 0 ∷ []
    pub home : s.homes ≡ some (Some value) ∷ []
    pub log_is : history value ≡ log
    pub opens_is : opens ≡ Some (opening value)
    pub none_holds : (j : ℕ) (v : View O E) → get_elem? s.views j ≡ some v → v.holds ≡ false

  -- one view holds the desk, and has seen this history
  pub record IsHeld (s : State (Option T) (View O E)) (log : List E) : Type 0 where
    pub place : ℕ
    pub holder : View O E
    pub word : s.words ≡ 1 ∷ []
    pub home : s.homes ≡ none ∷ []
    pub at_place : get_elem? s.views place ≡ some holder
    pub holds : holder.holds ≡ true
    pub log_is : holder.seen ≡ log
    pub one_holds : (j : ℕ) (v : View O E) → get_elem? s.views j ≡ some v → v.holds ≡ true → j ≡ place

  -- what a view has seen begins the history. That of a seat has the desk's opening, and of its numbers, which were given out
  -- and one of which is its own, the history has no entry that it has not seen
  pub record Fits (log : List E) (opens : Option O) (made : ℕ) (v : View O E) : Type 0 where
    pub begins : IsPrefix v.seen log
    pub own : v.live ≡ true → HasNoMore author v.numbers v.seen log
    pub below : v.live ≡ true → (n : ℕ) → Contains v.numbers n → n < made
    pub its_own : v.live ≡ true → Contains v.numbers v.number
    pub opens_is : v.live ≡ true → v.opening ≡ opens
    pub spent : v.live ≡ false → v.holds ≡ false
    pub tells : v.joining ≡ true → SeesBoth author v.these v.before v.those v.guest v.seen

  -- the table carries a desk: one view is the first seat's, which knows how many numbers were given out and how many other
  -- seats there are; each number that was given out is one of exactly one seat's; and no entry has another
  pub record IsDesk (s : State (Option T) (View O E)) : Type 0 where
    pub chair : ℕ
    pub head : View O E
    pub log : List E
    pub opens : Option O
    pub at_chair : get_elem? s.views chair ≡ some head
    pub is_chair : (head.chair ≡ true) × (head.live ≡ true)
    pub one_chair : (j : ℕ) (v : View O E) → get_elem? s.views j ≡ some v → v.chair ≡ true → j ≡ chair
    pub fits : (j : ℕ) (v : View O E) → get_elem? s.views j ≡ some v → Fits log opens head.made v
    pub apart : (j k : ℕ) (u v : View O E) → get_elem? s.views j ≡ some u → get_elem? s.views k ≡ some v → u.live ≡ true → v.live ≡ true
        → (n : ℕ) → Contains u.numbers n → Contains v.numbers n → j ≡ k
    pub covered : (n : ℕ) → n < head.made → (j : ℕ) × (v : View O E) × (get_elem? s.views j ≡ some v) × (v.live ≡ true) × Contains v.numbers n
    pub not_made : (n : ℕ) → head.made ≤ n → entries_of author n log ≡ []
    pub counted : living s.views ≡ head.others + 1
    pub stands : IsFree s log opens ⊎ IsHeld s log
