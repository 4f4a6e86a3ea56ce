-- What the rule of a turn says between any two steps, in five facts.
use Rattle.std.specs.Prelude.{◌≡◌, ◌⊎◌, ℕ, ◌≤◌, true, List, [], ◌∷◌, Option, Some}
use mathlib.Core.Option.{some, none}
use lib.ListN.{get_elem?}
use Rattle.atomic_table.specs.Table.{State}
use Rattle.ltm_turn.specs.declared.view.View.{View}

module _ {T E : Type 0} where
  -- the j-th view is this one
  abbrev pub IsView : State (Option T) (View E) → ℕ → View E → Type 0
  IsView s j v = get_elem? s.views j ≡ some v

  -- the word is this number
  abbrev pub WordIs : State (Option T) (View E) → ℕ → Type 0
  WordIs s n = s.words ≡ n ∷ []

  -- the slot has this value
  abbrev pub AtHome : State (Option T) (View E) → T → Type 0
  AtHome s x = s.homes ≡ some (Some x) ∷ []

  -- exactly one view is the editor's; the word is 1 exactly where a view says that it holds the turn, and else 0; no two
  -- say so
  pub record OneHolder (s : State (Option T) (View E)) : Type 0 where
    pub an_editor : (j : ℕ) × (v : View E) × IsView s j v × (v.editor ≡ true)
    pub one_editor : (j k : ℕ) (v w : View E) → IsView s j v → IsView s k w → v.editor ≡ true → w.editor ≡ true → j ≡ k
    pub word : WordIs s 0 ⊎ WordIs s 1
    pub held : WordIs s 1 → (j : ℕ) × (v : View E) × IsView s j v × (v.holds ≡ true)
    pub holds : (j : ℕ) (v : View E) → IsView s j v → v.holds ≡ true → WordIs s 1
    pub one_holder : (j k : ℕ) (v w : View E) → IsView s j v → IsView s k w → v.holds ≡ true → w.holds ≡ true → j ≡ k

  -- the slot is at home exactly where the turn is free, and then it has a value
  pub record HomeWhenFree (s : State (Option T) (View E)) : Type 0 where
    pub free : WordIs s 0 → (x : T) × AtHome s x
    pub held : WordIs s 1 → s.homes ≡ none ∷ []

  -- a number that no view exceeds
  abbrev pub NoneExceeds : State (Option T) (View E) → ℕ → Type 0
  NoneExceeds s n = (j : ℕ) (v : View E) → IsView s j v → v.number ≤ n

  -- a list that is the one in the editor's view
  abbrev pub IsEditorsList : State (Option T) (View E) → List E → Type 0
  IsEditorsList s list = (j : ℕ) (v : View E) → IsView s j v → v.editor ≡ true → list ≡ v.entries

module _ {T E : Type 0} (entries : T → List E) where
  -- a value in the slot has the editor's list
  abbrev pub EditorsList : State (Option T) (View E) → Type 0
  EditorsList s = (x : T) → AtHome s x → IsEditorsList s (entries x)

module _ {T E : Type 0} (number : T → ℕ) where
  -- a value in the slot has a number that no view exceeds
  abbrev pub NumberNeverFalls : State (Option T) (View E) → Type 0
  NumberNeverFalls s = (x : T) → AtHome s x → NoneExceeds s (number x)

module _ {T E : Type 0} (entries : T → List E) (number : T → ℕ) where
  -- what a holder may put back: a value with a number that is at least the holder's has one that no view exceeds, and a
  -- value with the holder's list has the editor's
  abbrev pub MayBePutBack : State (Option T) (View E) → Type 0
  MayBePutBack s = (k : ℕ) (h : View E) → IsView s k h → h.holds ≡ true → (x : T) →
      (h.number ≤ number x → NoneExceeds s (number x)) × (entries x ≡ h.entries → IsEditorsList s (entries x))
