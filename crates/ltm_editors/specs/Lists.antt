-- Lists of entries, each with the number of its author.
use Rattle.std.specs.Prelude.{◌≡◌, ◌≢◌, ◌⊎◌, ℕ, ◌==◌, List, length, take}
use Rattle.std.specs.List.{filter, Contains}
use mathlib.Core.List.{IsPrefix}

module _ {E : Type 0} (author : E → ℕ) where
  -- the entries of a number, in their order
  abbrev pub entries_of : ℕ → List E → List E
  entries_of n es = filter (λ e. author e == n) es

  -- of each of these numbers the whole has the entries that the part has, and no other
  abbrev pub HasNoMore : List ℕ → List E → List E → Type 0
  HasNoMore numbers part whole = (n : ℕ) → Contains numbers n → entries_of n whole ≡ entries_of n part

  -- the list begins with what was found, and all that follows is of this number
  abbrev pub GrowsBy : ℕ → List E → List E → Type 0
  GrowsBy number found now = (take (length found) now ≡ found) × ((n : ℕ) → n ≢ number → entries_of n now ≡ entries_of n found)

  -- the longer of two lists, which begins with both. It has no entry of these numbers but those of the one list, and none of
  -- those numbers but those of the other
  pub record SeesBoth (these : List ℕ) (one : List E) (those : List ℕ) (other : List E) (seen : List E) : Type 0 where
    pub longer : (seen ≡ one) ⊎ (seen ≡ other)
    pub one_begins : IsPrefix one seen
    pub other_begins : IsPrefix other seen
    pub of_these : HasNoMore these one seen
    pub of_those : HasNoMore those other seen
