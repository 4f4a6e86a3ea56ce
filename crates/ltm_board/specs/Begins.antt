-- Lists that begin a list.
use Rattle.std.specs.Prelude.{List, [], ◌∷◌}
use mathlib.Core.List.{IsPrefix}

module _ {E : Type 0} where
  -- the list begins with each of these
  abbrev pub BeginsWith : List E → List (List E) → Type 0
  BeginsWith list [] = Unit {0}
  BeginsWith list (known ∷ others) = IsPrefix known list × BeginsWith list others
