-- What the fields of `Names` keep.
use Rattle.std.specs.Prelude.{◌≡◌, ℕ, ◌<◌, ◌==◌, List, length, slice_index_or, Some}
use Rattle.std.specs.HashMap as hash
use Rattle.std.specs.HashMap.{HashMap}
use Rattle.std.specs.Cmp.Lexicographic.{pointwise}

-- the map tells the place of each name; what it tells of other names is no matter
abbrev pub AreFound : {S : Type 0} → List (List ℕ) → HashMap (List ℕ) ℕ S → Type 0
AreFound names places = (i : ℕ) (d : List ℕ) → i < length names → hash.get (pointwise ◌==◌) places (slice_index_or names i d) ≡ Some i
