-- A share of an amount by the factor of the share.
use Rattle.std.proofs.Common.{◌≡◌, ℕ, ◌+◌, ◌*◌, ◌/◌, ◌%◌, ◌^◌, ◌<◌, ◌≤◌, arith, inl, inr, ap}
use Rattle.std.proofs.Math.Nat.{le_of_mul-le-mul_right, lt_of_mul-lt-mul_right, mul-le-mul_right, mul-le-mul_left, mul-lt-mul_of_pos_right, div-mul-le_self}
use Rattle.std.proofs.lemmas.Bool.{cases_lt}
use Rattle.std.proofs.lemmas.Nat.{le-div, div_below, div-add-mod', mod_below}
use Rattle.ltm_shares.specs.Factors.{factor}

-- a quotient lies between its neighbours
pub quotient_is : (n d q : ℕ) → 0 < d → q * d ≤ n → n < (q + 1) * d → q ≡ n / d
quotient_is n d q pos low high = let a : q ≤ n / d = le-div q n d pos low in let b : n / d < q + 1 = div_below n d (q + 1) pos high in omega arith

pub factor_low : (p d : ℕ) → factor p d * d ≤ p * 2 ^ 32
factor_low p d = div-mul-le_self (p * 2 ^ 32) d

pub factor_high : (p d : ℕ) → 0 < d → p * 2 ^ 32 < factor p d * d + d
factor_high p d pos = let e : factor p d * d + p * 2 ^ 32 % d ≡ p * 2 ^ 32 = div-add-mod' (p * 2 ^ 32) d in let l : p * 2 ^ 32 % d < d = mod_below (p * 2 ^ 32) d pos in omega arith

-- what the factor gives is at most the share
pub share_low : (p d f a x r : ℕ) → f * d ≤ p * 2 ^ 32 → f * a ≡ x * 2 ^ 32 + r → x * d ≤ p * a
share_low p d f a x r low split =
    let most : a * (f * d) ≤ a * (p * 2 ^ 32) = mul-le-mul_left a low in
    let turned : f * a * d ≡ (x * 2 ^ 32 + r) * d = ap (λ z. z * d) split in
    le_of_mul-le-mul_right {k = 2 ^ 32} (omega arith) (omega arith)

-- and the share is less than what the factor and the amount give
pub share_high : (p d f a x r k : ℕ) → 0 < d → 0 < k → p * 2 ^ 32 < f * d + d → f * a ≡ x * 2 ^ 32 + r → r + a ≤ k * 2 ^ 32 → p * a < (x + k) * d
share_high p d f a x r k pos some high split fits =
    let turned : f * a * d ≡ (x * 2 ^ 32 + r) * d = ap (λ z. z * d) split in
    let room : (r + a) * d ≤ k * 2 ^ 32 * d = mul-le-mul_right d fits in
    elim (cases_lt 0 a) [
      | inl more ↦
          let less : p * 2 ^ 32 * a < (f * d + d) * a = mul-lt-mul_of_pos_right high more in
          lt_of_mul-lt-mul_right (2 ^ 32) (omega arith)
      | inr none ↦
          let least : 1 * d ≤ (x + k) * d = mul-le-mul_right d (let h : 1 ≤ x + k = omega arith in h) in
          let zero : p * a ≤ p * 0 = mul-le-mul_left p none in
          omega arith
    ]

-- two digits of 16 bits are a factor
pub digits_factor : (p d a b r s : ℕ) → p * 2 ^ 16 ≡ a * d + r → r * 2 ^ 16 ≡ b * d + s → s < d → a * 2 ^ 16 + b ≡ factor p d
digits_factor p d a b r s one two below = quotient_is (p * 2 ^ 32) d (a * 2 ^ 16 + b) (omega arith) (omega arith) (omega arith)

-- ---- a product of a factor and an amount

whole_and_rest : (y : ℕ) → y ≡ y / 2 ^ 32 * 2 ^ 32 + y % 2 ^ 32
whole_and_rest y = omega (arith, div-add-mod' y (2 ^ 32))

-- the whole part is the share where the rest and the amount are at most a whole
pub share_narrow : (p d f a : ℕ) → 0 < d → f ≡ factor p d → f * a % 2 ^ 32 + a ≤ 2 ^ 32 → f * a / 2 ^ 32 ≡ p * a / d
share_narrow p d f a pos is fits =
    let low : f * d ≤ p * 2 ^ 32 = omega (arith, factor_low p d, ap (λ z. z * d) is) in
    let high : p * 2 ^ 32 < f * d + d = omega (arith, factor_high p d pos, ap (λ z. z * d) is) in
    quotient_is (p * a) d (f * a / 2 ^ 32) pos (share_low p d f a _ _ low (whole_and_rest (f * a))) (share_high p d f a _ _ 1 pos (omega arith) high (whole_and_rest (f * a)) fits)

pub share_at_least : (p d f a : ℕ) → f ≡ factor p d → f * a / 2 ^ 32 * d ≤ p * a
share_at_least p d f a is =
    let low : f * d ≤ p * 2 ^ 32 = omega (arith, factor_low p d, ap (λ z. z * d) is) in
    share_low p d f a _ _ low (whole_and_rest (f * a))

pub share_below : (p d f a : ℕ) → 0 < d → a ≤ 32000 → f ≡ factor p d → p * a < (f * a / 2 ^ 32 + 2) * d
share_below p d f a pos small is =
    let high : p * 2 ^ 32 < f * d + d = omega (arith, factor_high p d pos, ap (λ z. z * d) is) in
    let rest : f * a % 2 ^ 32 < 2 ^ 32 = mod_below (f * a) (2 ^ 32) (omega arith) in
    share_high p d f a _ _ 2 pos (omega arith) high (whole_and_rest (f * a)) (omega arith)
