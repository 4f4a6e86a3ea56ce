-- Names in order of adding, and the place of each.
use Rattle.std.specs.Prelude.{ℕ, ◌≡◌, ◌<◌, Bool, ◌==◌, List, [], ◌∷◌, ◌++◌, slice_index_or, length, nat_lt, ◌&&◌, is_some, if◌then◌else◌, Option, Some, unwrap_or}
use Rattle.std.specs.List.{position_from}
use Rattle.std.specs.Cmp.Lexicographic.{pointwise}

-- two names are equal byte by byte
abbrev pub same : List ℕ → List ℕ → Bool
same a b = pointwise ◌==◌ a b

abbrev pub stands_at : List (List ℕ) → ℕ → List ℕ → Bool
stands_at names place name = nat_lt place (length names) && same (slice_index_or names place []) name

-- the first place where the name stands
abbrev pub place_of : List (List ℕ) → List ℕ → Option ℕ
place_of names name = position_from (same name) 0 names

-- the names, with this one behind them where it is new
abbrev pub with_name : List (List ℕ) → List ℕ → List (List ℕ)
with_name names name = if is_some (place_of names name) then names else names ++ name ∷ []

-- the place of a name, or the next one where it is new
abbrev pub number_of : List (List ℕ) → List ℕ → ℕ
number_of names name = unwrap_or (place_of names name) (length names)

-- no name stands twice: each is found where it stands
abbrev pub AreApart : List (List ℕ) → Type 0
AreApart names = (place : ℕ) → place < length names → place_of names (slice_index_or names place []) ≡ Some place
