-- Weights by the names of out-links.
use Rattle.std.specs.Prelude.{ℕ, ◌&&◌, not, Bool, true, nat_le, List, [], ◌∷◌, length, Option, Some, None, if◌then◌else◌}
use Rattle.std.specs.List.{list_any}
use Rattle.ltm_network.specs.Names.{same}

abbrev pub NamedWeight : Type 0
NamedWeight = List ℕ × ℕ

-- a row by the names of out-links: a first slot, and the weights from then on
abbrev pub NamedRow : Type 0
NamedRow = ℕ × List NamedWeight

-- some weight has the name
abbrev pub is_named : List ℕ → List NamedWeight → Bool
is_named name weights = list_any (λ w. same w.0 name) weights

-- no name stands twice
abbrev pub are_apart : List NamedWeight → Bool
are_apart [] = true
are_apart (w ∷ ws) = not (is_named w.0 ws) && are_apart ws

-- one to four weights with distinct names
abbrev pub are_weights : List NamedWeight → Bool
are_weights weights = nat_le 1 (length weights) && nat_le (length weights) 4 && are_apart weights

-- the weights, where they are such
abbrev pub as_weights : List NamedWeight → Option (List NamedWeight)
as_weights weights = if are_weights weights then Some weights else None
