-- The names of a made case.
use Rattle.std.specs.Prelude.{ℕ, List, ◌∷◌}
use Rattle.std.specs.Fmt.{decimal}

-- a letter and the digits of a number
unfoldable pub numbered : ℕ → ℕ → List ℕ
numbered letter number = letter ∷ decimal number

-- node k is named `x` and the digits of k
abbrev pub name_of_node : ℕ → List ℕ
name_of_node k = numbered 120 k

-- link i is named `l` and the digits of i
abbrev pub name_of_link : ℕ → List ℕ
name_of_link i = numbered 108 i
