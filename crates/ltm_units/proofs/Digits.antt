-- The value of digits, one more at a time.
use Rattle.std.proofs.Common.{inl, inr, ℕ, suc, ◌≡◌, ◌+◌, ◌-◌, ◌*◌, ◌^◌, ◌<◌, ◌≤◌, true, false, List, [], ◌∷◌, ◌++◌, length, take, drop, get_or, arith, ap, ◌∙◌, append_assoc, length-append, add-one}
use Rattle.std.proofs.Math.Nat.{pow-suc}
use Rattle.std.proofs.lemmas.List.{take_more, append-nil, take-append-drop}
use Rattle.std.proofs.lemmas.List.Folds.{list_all_at}
use Rattle.std.proofs.lemmas.Bool.{cases_Bool}
use Rattle.std.proofs.lemmas.Grind.{common_steps}
use Rattle.std.specs.List.{list_all}
use Rattle.ltm_units.specs.Numbers.{value, is_digit}

go : (x p v w q d : ℕ) → q ≡ p * 10 → w ≡ v * 10 + d → x * q + w ≡ (x * p + v) * 10 + d
go x p v w q d e f = rw (e, f) (omega arith)

ten_more : (xs : List ℕ) (d : ℕ) → 10 ^ length (xs ++ d ∷ []) ≡ 10 ^ length xs * 10
ten_more xs d =
    let len : length (xs ++ d ∷ []) ≡ suc (length xs) = length-append xs (d ∷ []) ∙ add-one (length xs) in
    ap (λ n. 10 ^ n) len ∙ pow-suc 10 (length xs)

pub value-append : (xs : List ℕ) (d : ℕ) → value (xs ++ d ∷ []) ≡ value xs * 10 + (d - 48)
value-append [] d = omega arith
value-append (x ∷ xs) d = go (x - 48) (10 ^ length xs) (value xs) (value (xs ++ d ∷ [])) (10 ^ length (xs ++ d ∷ [])) (d - 48) (ten_more xs d) (value-append xs d)

-- the value of one more digit
pub value-more : (xs : List ℕ) (i : ℕ) → i < length xs → value (take (i + 1) xs) ≡ value (take i xs) * 10 + (get_or xs i 0 - 48)
value-more xs i h = ap value (take_more xs i 0 h) ∙ value-append (take i xs) (get_or xs i 0)

-- each of the digits is one
pub digit_at : (xs : List ℕ) (i : ℕ) → list_all is_digit xs ≡ true → i < length xs → is_digit (get_or xs i 0) ≡ true
digit_at xs i all h = elim (cases_Bool (is_digit (get_or xs i 0))) [
  | inl good ↦ good
  | inr bad ↦ let none : list_all is_digit xs ≡ false = list_all_at is_digit xs i 0 h bad in cc
]

pub digit_bounds : (xs : List ℕ) (i : ℕ) → list_all is_digit xs ≡ true → i < length xs → (48 ≤ get_or xs i 0) × (get_or xs i 0 ≤ 57)
digit_bounds xs i all h = let d = digit_at xs i all h in grind (arith, common_steps, d)

-- more digits have no smaller value
value-append-le : (xs ys : List ℕ) → value xs ≤ value (xs ++ ys)
value-append-le xs [] = omega (arith, ap value (append-nil xs))
value-append-le xs (y ∷ ys) =
    let one = value-append xs y in
    let more = value-append-le (xs ++ y ∷ []) ys in
    let same : value ((xs ++ y ∷ []) ++ ys) ≡ value (xs ++ y ∷ ys) = ap value (append_assoc xs (y ∷ []) ys) in
    omega arith

-- so if the digits so far and one more do not fit, the whole does not
pub value-grows : (xs : List ℕ) (i : ℕ) → i < length xs → value (take i xs) * 10 + (get_or xs i 0 - 48) ≤ value xs
value-grows xs i h =
    let same : value (take (i + 1) xs ++ drop (i + 1) xs) ≡ value xs = ap value (take-append-drop (i + 1) xs) in
    omega (arith, value-append-le (take (i + 1) xs) (drop (i + 1) xs), value-more xs i h)

pub ruleset steps = (value-more, value-grows, digit_bounds)
