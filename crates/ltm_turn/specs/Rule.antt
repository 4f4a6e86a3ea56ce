-- The rule of a turn: what its table is between any two steps.
use Rattle.std.specs.Prelude.{◌≡◌, ◌⊎◌, ℕ, ◌+◌, ◌≤◌, Bool, true, false, List, [], ◌∷◌, Option, Some}
use mathlib.Core.Option.{some, none}
use lib.ListN.{get_elem?}
use Rattle.atomic_table.specs.Table.{State}
use Rattle.ltm_turn.specs.declared.view.View.{View}

-- 1 where it is true, and else 0
abbrev pub one_if : Bool → ℕ
one_if true = 1
one_if false = 0

-- how many views are those of workers
abbrev pub working : {E : Type 0} → List (View E) → ℕ
working [] = 0
working (v ∷ vs) = one_if v.works + working vs

module _ {T E : Type 0} (entries : T → List E) (number : T → ℕ) where
  -- the turn is free: its slot has a value with this list, and with a number that no view exceeds
  pub record IsFree (s : State (Option T) (View E)) (list : List E) : Type 0 where
    pub value : T
    pub word : s.words ≡ 0 ∷ []
    pub home : s.homes ≡ some (Some value) ∷ []
    pub list_is : entries value ≡ list
    pub above : (j : ℕ) (v : View E) → get_elem? s.views j ≡ some v → (v.holds ≡ false) × (v.number ≤ number value)

  -- one view holds the turn; it has this list, and a number that no view exceeds
  pub record IsHeld (s : State (Option T) (View E)) (list : List E) : Type 0 where
    pub place : ℕ
    pub holder : View E
    pub word : s.words ≡ 1 ∷ []
    pub home : s.homes ≡ none ∷ []
    pub at_place : get_elem? s.views place ≡ some holder
    pub holds : holder.holds ≡ true
    pub list_is : holder.entries ≡ list
    pub above : (j : ℕ) (v : View E) → get_elem? s.views j ≡ some v → (v.holds ≡ true → j ≡ place) × (v.number ≤ holder.number)

  -- the table carries a turn: one view is the editor's; every other holder is a worker; the editor knows how many workers
  -- there are; and the turn is free or held, with the list that the editor's view has
  pub record IsTurn (s : State (Option T) (View E)) : Type 0 where
    pub place : ℕ
    pub editor : View E
    pub at_place : get_elem? s.views place ≡ some editor
    pub is_editor : (editor.editor ≡ true) × (editor.works ≡ false)
    pub only_editor : (j : ℕ) (v : View E) → get_elem? s.views j ≡ some v → v.editor ≡ true → j ≡ place
    pub holders_work : (j : ℕ) (v : View E) → get_elem? s.views j ≡ some v → v.holds ≡ true → v.editor ≡ false → v.works ≡ true
    pub counted : working s.views ≡ editor.workers
    pub stands : IsFree s editor.entries ⊎ IsHeld s editor.entries
