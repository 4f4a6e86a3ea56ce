-- The pieces of a text, with one space between two.
use Rattle.std.specs.Prelude.{ℕ, ◌==◌, Bool, List, [], Option, Some, None}
use Rattle.std.specs.List.{slice_split}

abbrev pub is_space : ℕ → Bool
is_space b = b == 32

-- the pieces of what stands behind a space, if there is one
abbrev pub pieces_behind : Option (List ℕ) → List (List ℕ)
pieces_behind (Some text) = slice_split is_space text
pieces_behind None = []
