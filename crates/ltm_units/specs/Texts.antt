-- The pieces of which lines are made.
use Rattle.std.specs.Prelude.{ℕ, zero, suc, ◌+◌, ◌/◌, ◌%◌, List, [], ◌∷◌, ◌++◌}
use Rattle.std.specs.Fmt.{decimal}

-- whole vehicles, a point and three digits
unfoldable pub vehicles_text : ℕ → List ℕ
vehicles_text n = decimal (n / 1000) ++ 46 ∷ (48 + n % 1000 / 100) ∷ (48 + n % 100 / 10) ∷ (48 + n % 10) ∷ []

-- words and a number
unfoldable pub number_piece : List ℕ → ℕ → List ℕ
number_piece words number = words ++ decimal number

-- words and an amount of vehicles
unfoldable pub amount_piece : List ℕ → ℕ → List ℕ
amount_piece words amount = words ++ vehicles_text amount

-- the texts of the numbers below n, in order
abbrev pub texts_below : ℕ → (ℕ → List ℕ) → List ℕ
texts_below zero text = []
texts_below (suc n) text = texts_below n text ++ text n
