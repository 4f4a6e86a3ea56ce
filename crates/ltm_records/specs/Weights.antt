-- The weights that a text tells: entries with one space between two, each a name, `=` and a whole number.
use Rattle.std.specs.Prelude.{ℕ, ◌==◌, Bool, nat_le, List, [], ◌∷◌, length, Option, Some, None, if◌then◌else◌}
use Rattle.std.specs.List.{slice_split, before_first, after_first}
use Rattle.ltm_units.specs.Words.{is_name}
use Rattle.ltm_units.specs.Numbers.{whole}
use Rattle.ltm_records.specs.Pieces.{is_space}

-- a name with its weight
abbrev pub Entry : Type 0
Entry = List ℕ × ℕ

abbrev pub is_equals : ℕ → Bool
is_equals b = b == 61

abbrev pub weighed : List ℕ → Option ℕ → Option Entry
weighed name (Some weight) = Some (name, weight)
weighed name None = None

-- the entry that a text tells: a name up to the first `=`, and a whole number behind it
abbrev pub entry_of : List ℕ → Option Entry
entry_of text = if is_name (before_first is_equals text) then weighed (before_first is_equals text) (whole (after_first is_equals text)) else None

abbrev pub onto : Option Entry → Option (List Entry) → Option (List Entry)
onto (Some e) (Some es) = Some (e ∷ es)
onto (Some e) None = None
onto None es = None

-- every text's entry, or nothing where one tells none
abbrev pub entries_of : List (List ℕ) → Option (List Entry)
entries_of [] = Some []
entries_of (text ∷ texts) = onto (entry_of text) (entries_of texts)

abbrev pub at_most_four : Option (List Entry) → Option (List Entry)
at_most_four (Some es) = if nat_le (length es) 4 then Some es else None
at_most_four None = None

-- the pieces between spaces are one to four entries
abbrev pub weights_of : List ℕ → Option (List Entry)
weights_of text = at_most_four (entries_of (slice_split is_space text))
