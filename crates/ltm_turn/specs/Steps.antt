-- What each step on the word of a turn tells: of what the seat knew and held, and of what it knows and holds after.
use Rattle.std.specs.Prelude.{◌≡◌, ℕ, ◌≤◌, ◌==◌, true, List, [], ◌∷◌, Option, Some, MatchBool}
use Rattle.atomic_table.specs.Table.{Me, Step}
use Rattle.ltm_turn.specs.declared.view.View.{View}
use Rattle.ltm_turn.specs.Views.{holding, idle}

module _ {T E : Type 0} (entries : T → List E) (number : T → ℕ) where
  -- a take that wins has the slot; the value in it has the list that the editor left, where the editor takes, and a number
  -- that is at least what the pass has seen
  abbrev pub Wins : Me (Option T) (View E) → Me (Option T) (View E) → Type 0
  Wins m m' = (x : T) × (m' ≡ (holding m.0 (entries x) (number x), (0, Some x) ∷ m.1)) × (m.0.number ≤ number x) × (m.0.editor ≡ true → entries x ≡ m.0.entries)

  -- a take wins where it found the word 0, and else changes nothing
  abbrev pub Takes : Step (Option T) → Me (Option T) (View E) → ℕ → Me (Option T) (View E) → Type 0
  Takes st m found m' = MatchBool (found == 0) (Wins m m') (m' ≡ m)

  -- the holder notes the list and the number of the value in its hand
  abbrev pub Notes : Step (Option T) → Me (Option T) (View E) → ℕ → Me (Option T) (View E) → Type 0
  Notes st m found m' = (x : T) → m.1 ≡ (0, Some x) ∷ [] → m' ≡ (holding m.0 (entries x) (number x), m.1)

module _ {T E : Type 0} where
  -- the holder is idle, and its hand is empty
  abbrev pub Frees : Step (Option T) → Me (Option T) (View E) → ℕ → Me (Option T) (View E) → Type 0
  Frees st m found m' = m' ≡ (idle m.0, [])
