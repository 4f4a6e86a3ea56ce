-- Choices by a test of numbers.
use Rattle.std.proofs.Common.{◌≡◌, ◌≢◌, ℕ, ◌<◌, ◌≤◌, cond, nat_eq, nat_lt, arith}
use Rattle.std.proofs.lemmas.Bool.Decides.{nat_tests}

pub pick_same : (k o x : ℕ) → k ≡ o → cond (nat_eq k o) x 0 ≡ x
pick_same k o x h = grind (arith, nat_tests)

pub pick_other : (k o x : ℕ) → k ≢ o → cond (nat_eq k o) x 0 ≡ 0
pick_other k o x h = grind (arith, nat_tests)

pub pick_first : (i n x y : ℕ) → i < n → cond (nat_lt i n) x y ≡ x
pick_first i n x y h = grind (arith, nat_tests)

pub pick_second : (i n x y : ℕ) → n ≤ i → cond (nat_lt i n) x y ≡ y
pick_second i n x y h = grind (arith, nat_tests)
