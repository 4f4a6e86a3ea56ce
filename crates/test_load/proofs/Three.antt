-- Three potentials, each of them small.
use Rattle.std.proofs.Common.{[], ◌∷◌, Option}
use Rattle.std.specs.Prelude.{All}
use Rattle.std.proofs.lemmas.List.Elements.{All-cons, All-nil}
use Rattle.ltm_units.specs.declared.quantities.Millis.{Millis}
use Rattle.ltm_routes.specs.Potentials.{IsSmall}

pub three_small : (a b c : Option Millis) → IsSmall a → IsSmall b → IsSmall c → All IsSmall (a ∷ b ∷ c ∷ [])
three_small a b c one two three = All-cons IsSmall a (b ∷ c ∷ []) one (All-cons IsSmall b (c ∷ []) two (All-cons IsSmall c [] three (All-nil IsSmall)))
