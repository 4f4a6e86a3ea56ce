-- How one to four values lie in four places: the values, and behind them the first once more.
use Rattle.std.specs.Prelude.{◌-◌, ◌&&◌, Bool, nat_le, List, [], ◌∷◌, ◌++◌, length, replicate}

-- one to four
abbrev pub is_few : {T : Type 0} → List T → Bool
is_few values = nat_le 1 (length values) && nat_le (length values) 4

-- the values in four places, the rest of which repeat the first
abbrev pub in_places : {T : Type 0} → List T → List T
in_places [] = []
in_places (x ∷ xs) = (x ∷ xs) ++ replicate (3 - length xs) x
