-- The counts that a field of a curve file tells: decimal numbers with one space between two.
use Rattle.std.specs.Prelude.{ℕ, ◌==◌, List, [], ◌∷◌, length, Option, Some, None, if◌then◌else◌}
use Rattle.std.specs.List.{slice_split}
use Rattle.ltm_units.specs.Numbers.{number_told}
use Rattle.ltm_records.specs.Pieces.{is_space}

-- the count that a text tells: 1 to 15 digits with a value of at most 2^48
abbrev pub count_told : List ℕ → Option ℕ
count_told = number_told 15 281474976710656

abbrev pub onto : Option ℕ → Option (List ℕ) → Option (List ℕ)
onto (Some count) (Some counts) = Some (count ∷ counts)
onto (Some count) None = None
onto None counts = None

-- every text's count, or nothing where one tells none
abbrev pub each_told : List (List ℕ) → Option (List ℕ)
each_told [] = Some []
each_told (text ∷ texts) = onto (count_told text) (each_told texts)

abbrev pub if_many : ℕ → Option (List ℕ) → Option (List ℕ)
if_many many None = None
if_many many (Some counts) = if length counts == many then Some counts else None

-- so many counts, with one space between two
abbrev pub counts_told : ℕ → List ℕ → Option (List ℕ)
counts_told many text = if_many many (each_told (slice_split is_space text))
