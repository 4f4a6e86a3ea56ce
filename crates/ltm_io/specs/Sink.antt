-- What a sink tells of the bytes written.
use Rattle.std.specs.Prelude.{ℕ, ◌≤◌, ◌≡◌, ◌++◌, List, length, take, Option, option_map}

-- what is written after these bytes were appended, where it is told
abbrev pub appended : List ℕ → Option (List ℕ) → Option (List ℕ)
appended bytes told = option_map (λ w. w ++ bytes) told

-- a front of these bytes was appended
abbrev pub AppendsFront : Option (List ℕ) → Option (List ℕ) → List ℕ → Type 0
AppendsFront old new bytes = (n : ℕ) × (n ≤ length bytes) × (new ≡ appended (take n bytes) old)
