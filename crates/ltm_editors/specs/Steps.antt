-- What each step on the word of a desk tells: of what the seat knew and held, and of what it knows and holds after.
use Rattle.std.specs.Prelude.{◌≡◌, ℕ, ◌==◌, List, [], ◌∷◌, Option, Some, MatchBool}
use mathlib.Core.List.{IsPrefix}
use Rattle.atomic_table.specs.Table.{Me, Step}
use Rattle.ltm_editors.specs.declared.view.View.{View}
use Rattle.ltm_editors.specs.Lists.{HasNoMore, SeesBoth}
use Rattle.ltm_editors.specs.Views.{holding, idle, told}

module _ {T O E : Type 0} (opening : T → O) (history : T → List E) (author : E → ℕ) where
  -- a take that wins has the slot; the value in it has the seat's opening, and a history that begins with all that the seat
  -- has seen and has no other entry of its numbers
  abbrev pub Wins : Me (Option T) (View O E) → Me (Option T) (View O E) → Type 0
  Wins m m' = (x : T) × (m' ≡ (holding m.0 (history x), (0, Some x) ∷ m.1)) × (m.0.opening ≡ Some (opening x)) × IsPrefix m.0.seen (history x)
      × HasNoMore author m.0.numbers m.0.seen (history x)

  -- a take wins where it found the word 0, and else changes nothing
  abbrev pub Takes : Step (Option T) → Me (Option T) (View O E) → ℕ → Me (Option T) (View O E) → Type 0
  Takes st m found m' = MatchBool (found == 0) (Wins m m') (m' ≡ m)

module _ {T O E : Type 0} (history : T → List E) where
  -- the holder has seen the history that it left; it is idle, and its hand is empty
  abbrev pub Frees : Step (Option T) → Me (Option T) (View O E) → ℕ → Me (Option T) (View O E) → Type 0
  Frees st m found m' = (x : T) → m.1 ≡ (0, Some x) ∷ [] → m' ≡ (idle m.0 (history x), [])

module _ {T O E : Type 0} (author : E → ℕ) where
  -- the first seat learns what it has seen since it took another in
  abbrev pub Tells : Step (Option T) → Me (Option T) (View O E) → ℕ → Me (Option T) (View O E) → Type 0
  Tells st m found m' = (m' ≡ (told m.0, m.1)) × SeesBoth author m.0.these m.0.before m.0.those m.0.guest m.0.seen
