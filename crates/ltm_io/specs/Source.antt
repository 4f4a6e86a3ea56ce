-- What a source tells of the bytes that are left.
use Rattle.std.specs.Prelude.{ℕ, ◌++◌, List, Option, option_map}

-- these bytes and then those that are left, where these are told
abbrev pub prepended : List ℕ → Option (List ℕ) → Option (List ℕ)
prepended bytes told = option_map (λ rest. bytes ++ rest) told
