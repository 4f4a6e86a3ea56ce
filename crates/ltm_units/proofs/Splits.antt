use Rattle.std.proofs.Common.{◌≡◌, ℕ, zero, suc, ◌+◌, ◌-◌, ◌*◌, ◌/◌, ◌<◌, ◌≤◌, List, [], ◌∷◌, sum, arith, inl, inr, refl, ap, ◌∙◌, sym, subst, slice_index}
use Rattle.std.proofs.Math.Nat.{mul-le-mul_right, mul-le-mul_left, lt_of_mul-lt-mul_left, div-le_of_le-mul, mul-div_right, div-eq_of_eq-mul_left, div-mul-le_self}
use Rattle.std.proofs.lemmas.Bool.{cases_lt}
use Rattle.std.proofs.lemmas.Nat.{le-div}
use Rattle.std.proofs.lemmas.List.Sums.{sum_by-cons}
use Rattle.ltm_units.specs.Nested.{nested_split, SharesMakeTheAmount, SharesRise, WholeSplits}

pub share_within : (m p t : ℕ) → p ≤ t → m * p / t ≤ m
share_within m p t h = div-le_of_le-mul t (omega (arith, mul-le-mul_left m h))

-- what is left after a share does not fall as the amount rises
rest_rises_by : (l g p t : ℕ) → p ≤ t → l - l * p / t ≤ l + g - (l + g) * p / t
rest_rises_by l g p t below =
    elim (cases_lt 0 t) [
      | inl positive ↦
          let less : t * ((l + g) * p / t) < t * (l * p / t + 1 + g) = omega (arith, mul-le-mul_left g below) in
          omega (arith, lt_of_mul-lt-mul_left t less, share_within (l + g) p t below)
      | inr none ↦
          let first : l * p ≤ l * 0 = mul-le-mul_left l (omega arith) in
          let second : (l + g) * p ≤ (l + g) * 0 = mul-le-mul_left (l + g) (omega arith) in omega arith
    ]

pub rest_rises : (l m p t : ℕ) → l ≤ m → p ≤ t → l - l * p / t ≤ m - m * p / t
rest_rises l m p t h below =
    let P : ℕ → Type 0 = λ v. l - l * p / t ≤ v - v * p / t in
    let e : l + (m - l) ≡ m = omega arith in subst P e (rest_rises_by l (m - l) p t below)

pub share_rises : (l m p t : ℕ) → l ≤ m → p ≤ t → l * p / t ≤ m * p / t
share_rises l m p t h below =
    elim (cases_lt 0 t) [
      | inl positive ↦ le-div (l * p / t) (m * p) t positive (omega (arith, div-mul-le_self (l * p) t, mul-le-mul_right p h))
      | inr none ↦ let first : l * p ≤ l * 0 = mul-le-mul_left l (omega arith) in omega arith
    ]

pub shares_rise_holds : SharesRise
shares_rise_holds [] less more h k = omega arith
shares_rise_holds (p ∷ ps) less more h zero = share_rises less more p (p + sum ps) h (omega arith)
shares_rise_holds (p ∷ ps) less more h (suc k) =
    shares_rise_holds ps (less - less * p / (p + sum ps)) (more - more * p / (p + sum ps)) (rest_rises less more p (p + sum ps) h (omega arith)) k

pub nested_split-cons : (m p : ℕ) (ps : List ℕ) (s r : ℕ) → m * p / (p + sum ps) ≡ s → m - s ≡ r → nested_split m (p ∷ ps) ≡ s ∷ nested_split r ps
nested_split-cons m p ps s r e f = let g : m - m * p / (p + sum ps) ≡ r = omega arith in cc

pub share_of_whole : (p t : ℕ) → p ≤ t → t * p / t ≡ p
share_of_whole p t below =
    elim (cases_lt 0 t) [ inl positive ↦ mul-div_right p positive | inr none ↦ omega (arith, share_within t p t below) ]

pub whole_splits_holds : WholeSplits
whole_splits_holds [] = refl
whole_splits_holds (p ∷ ps) =
    let e : sum (p ∷ ps) ≡ p + sum ps = sum_by-cons (λ x. x) p ps in
    let f : nested_split (p + sum ps) (p ∷ ps) ≡ p ∷ nested_split (sum ps) ps =
    nested_split-cons (p + sum ps) p ps p (sum ps) (share_of_whole p (p + sum ps) (omega arith)) (omega arith) in
    ap (λ m. nested_split m (p ∷ ps)) e ∙ (f ∙ ap (λ qs. p ∷ qs) (whole_splits_holds ps))

pub sum-nested_split : (xs : List ℕ) (m : ℕ) → (sum xs ≡ 0 → m ≡ 0) → sum (nested_split m xs) ≡ m
sum-nested_split [] m h = sym (h refl)
sum-nested_split (x ∷ xs) m h =
    let t : ℕ = x + sum xs in
    let share : ℕ = m * x / t in
    let e : sum (x ∷ xs) ≡ t = sum_by-cons (λ x. x) x xs in
    let last : sum xs ≡ 0 → m - share ≡ 0 = λ z. elim (cases_lt 0 x) [
      | inl positive ↦
          let all : m * x / t ≡ m = div-eq_of_eq-mul_left {n = t} (omega arith) (omega (arith, ap (λ v. m * v) z)) in omega arith
      | inr none ↦ omega (arith, h (omega arith))
    ] in
    let rest : sum (nested_split (m - share) xs) ≡ m - share = sum-nested_split xs (m - share) last in
    let whole : sum (share ∷ nested_split (m - share) xs) ≡ share + sum (nested_split (m - share) xs) = sum_by-cons (λ x. x) share (nested_split (m - share) xs) in
    whole ∙ omega (arith, share_within m x t (omega arith))

pub shares_make_the_amount_holds : SharesMakeTheAmount
shares_make_the_amount_holds parts amount h = sum-nested_split parts amount h

-- no share is more than the amount
pub nested_split-le : (xs : List ℕ) (m k : ℕ) → slice_index (nested_split m xs) k ≤ m
nested_split-le [] m k = omega arith
nested_split-le (x ∷ xs) m zero = share_within m x (x + sum xs) (omega arith)
nested_split-le (x ∷ xs) m (suc k) =
    let rest : slice_index (nested_split (m - m * x / (x + sum xs)) xs) k ≤ m - m * x / (x + sum xs) = nested_split-le xs (m - m * x / (x + sum xs)) k in omega arith

-- with no parts above 0, nothing is split
pub nested_split-zero : (xs : List ℕ) (m : ℕ) → sum xs ≡ 0 → nested_split m xs ≡ nested_split 0 xs
nested_split-zero [] m h = refl
nested_split-zero (x ∷ xs) m h =
    let whole : sum (x ∷ xs) ≡ x + sum xs = sum_by-cons (λ y. y) x xs in
    let none : m * x ≡ 0 * x = omega (arith, mul-le-mul_left m (let z : x ≤ 0 = omega arith in z)) in
    let share : m * x / (x + sum xs) ≡ 0 * x / (x + sum xs) = ap (λ v. v / (x + sum xs)) none in
    let first : nested_split (m - m * x / (x + sum xs)) xs ≡ nested_split 0 xs = nested_split-zero xs (m - m * x / (x + sum xs)) (omega arith) in
    let second : nested_split (0 - 0 * x / (x + sum xs)) xs ≡ nested_split 0 xs = nested_split-zero xs (0 - 0 * x / (x + sum xs)) (omega arith) in
    cc
