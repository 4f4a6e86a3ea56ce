-- Decimal digits tell their number.
use Rattle.std.proofs.Common.{◌≡◌, ℕ, ◌+◌, ◌/◌, ◌%◌, ◌<◌, ◌≤◌, ◌^◌, true, List, [], ◌∷◌, ◌++◌, length, Some, decimal, refl, ◌∙◌, arith, length-append}
use Rattle.std.specs.List.{list_all}
use Rattle.std.proofs.lemmas.Bool.Decides.{nat_tests}
use Rattle.std.proofs.lemmas.Fmt.{decimal_by_steps, length-decimal-le}
use Rattle.std.proofs.lemmas.List.Folds.{list_all-append}
use Rattle.ltm_units.specs.Numbers.{is_digit, value}
use Rattle.ltm_units.proofs.Digits.{value-append}
use Rattle.ltm_check.specs.CountsTold.{count_told}

pub record AreDigitsOf (n : ℕ) (ds : List ℕ) : Type 0 where
  pub digits : list_all is_digit ds ≡ true
  pub value_is : value ds ≡ n
  pub some : 1 ≤ length ds

digit : (d : ℕ) → d < 10 → is_digit (48 + d) ≡ true
digit d l = grind (arith, nat_tests)

one_digit : (n : ℕ) → n < 10 → AreDigitsOf n ((48 + n) ∷ [])
one_digit n l = record { digits = rw (digit n l) refl; value_is = omega arith; some = omega arith }

digit_more : (n : ℕ) (ds : List ℕ) → 10 ≤ n → AreDigitsOf (n / 10) ds → AreDigitsOf n (ds ++ ((48 + n % 10) ∷ []))
digit_more n ds l front = record {
  digits = list_all-append is_digit ds ((48 + n % 10) ∷ []) ∙ (let last : is_digit (48 + n % 10) ≡ true = digit (n % 10) (omega arith) in rw (front.digits, last) refl);
  value_is = omega (arith, value-append ds (48 + n % 10), front.value_is);
  some = omega (arith, length-append ds ((48 + n % 10) ∷ []));
}

pub decimal_digits : (n : ℕ) → n < 2 ^ 64 → AreDigitsOf n (decimal n)
decimal_digits n l = decimal_by_steps AreDigitsOf one_digit digit_more n l

-- a count is told by its digits
pub decimal_told : (n : ℕ) → n ≤ 2 ^ 48 → count_told (decimal n) ≡ Some n
decimal_told n l =
    let is = decimal_digits n (omega arith) in
    let short : length (decimal n) ≤ 15 = length-decimal-le 15 n (omega arith) (omega arith) (omega arith) in
    rw (is.digits, is.value_is) (grind (arith, nat_tests, is.some, short))
