-- What each of a list gives, up to the first that has a fault.
use Rattle.std.specs.Prelude.{ℕ, ◌+◌, List, [], ◌∷◌, Result, Ok, Err}

-- what one gives before what the others give; the first fault, where there is one
abbrev pub before : {B E : Type 0} → Result B E → Result (List B) E → Result (List B) E
before (Err fault) more = Err fault
before (Ok y) (Ok ys) = Ok (y ∷ ys)
before (Ok y) (Err fault) = Err fault

-- what each gives, counted on from this number
unfoldable pub each_from : {A B E : Type 0} → (ℕ → A → Result B E) → ℕ → List A → Result (List B) E
each_from gives n [] = Ok []
each_from gives n (x ∷ xs) = before (gives n x) (each_from gives (n + 1) xs)
