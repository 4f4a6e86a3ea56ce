-- What the rule of a desk says between any two steps, in five facts.
use Rattle.std.specs.Prelude.{◌≡◌, ◌≢◌, ◌⊎◌, ℕ, ◌≤◌, true, List, [], ◌∷◌, Option, Some}
use Rattle.std.specs.List.{Contains}
use mathlib.Core.List.{IsPrefix}
use mathlib.Core.Option.{some, none}
use lib.ListN.{get_elem?}
use Rattle.atomic_table.specs.Table.{State}
use Rattle.ltm_editors.specs.declared.view.View.{View}
use Rattle.ltm_editors.specs.Lists.{entries_of, HasNoMore, GrowsBy}

module _ {T O E : Type 0} where
  -- the j-th view is this one; and it is that of a seat that was not joined
  abbrev pub IsView : State (Option T) (View O E) → ℕ → View O E → Type 0
  IsView s j v = get_elem? s.views j ≡ some v

  abbrev pub Sits : State (Option T) (View O E) → ℕ → View O E → Type 0
  Sits s j v = IsView s j v × (v.live ≡ true)

  -- the word is this number
  abbrev pub WordIs : State (Option T) (View O E) → ℕ → Type 0
  WordIs s n = s.words ≡ n ∷ []

  -- the slot has this value
  abbrev pub AtHome : State (Option T) (View O E) → T → Type 0
  AtHome s x = s.homes ≡ some (Some x) ∷ []

  -- exactly one view is the first seat's, and that one was not joined; the word is 1 exactly where a view says that it holds
  -- the desk, and else 0; no two say so
  pub record OneHolder (s : State (Option T) (View O E)) : Type 0 where
    pub a_first : (j : ℕ) × (v : View O E) × Sits s j v × (v.chair ≡ true)
    pub one_first : (j k : ℕ) (v w : View O E) → IsView s j v → IsView s k w → v.chair ≡ true → w.chair ≡ true → j ≡ k
    pub word : WordIs s 0 ⊎ WordIs s 1
    pub held : WordIs s 1 → (j : ℕ) × (v : View O E) × IsView s j v × (v.holds ≡ true)
    pub holds : (j : ℕ) (v : View O E) → IsView s j v → v.holds ≡ true → WordIs s 1
    pub one_holder : (j k : ℕ) (v w : View O E) → IsView s j v → IsView s k w → v.holds ≡ true → w.holds ≡ true → j ≡ k

  -- a seat's view has this opening
  abbrev pub OpensAs : State (Option T) (View O E) → O → Type 0
  OpensAs s o = (j : ℕ) (v : View O E) → Sits s j v → v.opening ≡ Some o

  -- a list begins with what each view has seen
  abbrev pub BeginsWithSeen : State (Option T) (View O E) → List E → Type 0
  BeginsWithSeen s list = (j : ℕ) (v : View O E) → IsView s j v → IsPrefix v.seen list

  -- the list that some view has seen
  abbrev pub IsSeen : State (Option T) (View O E) → List E → Type 0
  IsSeen s list = (j : ℕ) × (v : View O E) × IsView s j v × (v.seen ≡ list)

module _ {T O E : Type 0} (opening : T → O) where
  -- the slot is at home exactly where the desk is free, and then it has a value. All seats have one opening, and a value in
  -- the slot has it
  pub record OneOpening (s : State (Option T) (View O E)) : Type 0 where
    pub free : WordIs s 0 → (x : T) × AtHome s x
    pub held : WordIs s 1 → s.homes ≡ none ∷ []
    pub one : (j k : ℕ) (v w : View O E) → Sits s j v → Sits s k w → v.opening ≡ w.opening
    pub at_home : (x : T) → AtHome s x → OpensAs s (opening x)

module _ {T O E : Type 0} (history : T → List E) where
  -- of the lists that two views have seen one begins with the other, and the history in the slot begins with all of them
  pub record OneHistory (s : State (Option T) (View O E)) : Type 0 where
    pub one : (j k : ℕ) (v w : View O E) → IsView s j v → IsView s k w → IsPrefix v.seen w.seen ⊎ IsPrefix w.seen v.seen
    pub at_home : (x : T) → AtHome s x → BeginsWithSeen s (history x)

module _ {T O E : Type 0} (author : E → ℕ) where
  -- of a list: past what a seat has seen it has no entry of that seat's numbers, which are its own and those of the seats that
  -- were joined with it; and it has none of a number that was not given out
  pub record BelongsToSeats (s : State (Option T) (View O E)) (list : List E) : Type 0 where
    pub its_own : (j : ℕ) (v : View O E) → Sits s j v → Contains v.numbers v.number
    pub no_more : (j : ℕ) (v : View O E) → Sits s j v → IsPrefix v.seen list → HasNoMore author v.numbers v.seen list
    pub given_out : (j : ℕ) (v : View O E) → Sits s j v → v.chair ≡ true → (n : ℕ) → v.made ≤ n → entries_of author n list ≡ []

  -- so it is with the list that a view has seen
  abbrev pub SeenBelongs : State (Option T) (View O E) → Type 0
  SeenBelongs s = (list : List E) → IsSeen s list → BelongsToSeats s list

module _ {T O E : Type 0} (history : T → List E) (author : E → ℕ) where
  -- and with the history in the slot
  abbrev pub HomeBelongs : State (Option T) (View O E) → Type 0
  HomeBelongs s = (x : T) → AtHome s x → BelongsToSeats author s (history x)

module _ {T O E : Type 0} (opening : T → O) (history : T → List E) (author : E → ℕ) where
  -- the value has the opening of all seats, and a history that begins with what each has seen. Of the numbers of every seat but
  -- the holder, and of those that were joined with the holder, it has no entry that the seat has not seen; and it has none of
  -- a number that was not given out
  pub record MayFollow (s : State (Option T) (View O E)) (k : ℕ) (h : View O E) (x : T) : Type 0 where
    pub opens : OpensAs s (opening x)
    pub begins : BeginsWithSeen s (history x)
    pub no_more : (j : ℕ) (v : View O E) → Sits s j v → (n : ℕ) → Contains v.numbers n → n ≢ h.number → entries_of author n (history x) ≡ entries_of author n v.seen
    pub given_out : (j : ℕ) (v : View O E) → Sits s j v → v.chair ≡ true → (n : ℕ) → v.made ≤ n → entries_of author n (history x) ≡ []

  -- what a holder may put back: a value with its opening, whose history is the one that it found and then entries of its number
  abbrev pub MayBePutBack : State (Option T) (View O E) → Type 0
  MayBePutBack s = (k : ℕ) (h : View O E) → IsView s k h → h.holds ≡ true → (x : T) → h.opening ≡ Some (opening x) → GrowsBy author h.number h.seen (history x) → MayFollow s k h x
