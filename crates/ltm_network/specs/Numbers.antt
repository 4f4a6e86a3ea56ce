-- Which elements of a list pass a test, by their numbers.
use Rattle.std.specs.Prelude.{ℕ, ◌+◌, Bool, if◌then◌else◌, List, [], ◌∷◌}

-- the numbers of the elements that pass, in order, where the first element has this number
abbrev pub numbers_of : {A : Type 0} → (A → Bool) → ℕ → List A → List ℕ
numbers_of test first [] = []
numbers_of test first (x ∷ xs) = if test x then first ∷ numbers_of test (first + 1) xs else numbers_of test (first + 1) xs
