-- One byte that is taken.
use Rattle.std.specs.Prelude.{ℕ, ◌≡◌, List, [], ◌∷◌, Option, Some, None, IfSome}
use Rattle.ltm_io.specs.Source.{prepended}

-- the first byte was taken, or none is left, where the bytes are told
abbrev pub TakesOne : Option (List ℕ) → Option ℕ → Option (List ℕ) → Type 0
TakesOne before None after = (after ≡ before) × IfSome before (λ bytes. bytes ≡ [])
TakesOne before (Some byte) after = before ≡ prepended (byte ∷ []) after
