use Rattle.std.proofs.Common.{◌≡◌, ◌≢◌, ℕ, zero, suc, ◌+◌, ◌*◌, ◌<◌, ◌≤◌, arith, inl, inr, ap, sym}
use Rattle.std.proofs.lemmas.Bool.{cases_lt}
use Rattle.ltm_units.specs.Sums.{sum_below}

pub sum_below-le : (n : ℕ) (f g : ℕ → ℕ) → ((k : ℕ) → k < n → f k ≤ g k) → sum_below n f ≤ sum_below n g
sum_below-le zero f g h = omega arith
sum_below-le (suc n) f g h =
    let below : sum_below n f ≤ sum_below n g = sum_below-le n f g (λ k l. h k (omega arith)) in
    let top : f n ≤ g n = h n (omega arith) in omega arith

pub sum_below-same : (n : ℕ) (f g : ℕ → ℕ) → ((k : ℕ) → k < n → f k ≡ g k) → sum_below n f ≡ sum_below n g
sum_below-same zero f g h = omega arith
sum_below-same (suc n) f g h =
    let below : sum_below n f ≡ sum_below n g = sum_below-same n f g (λ k l. h k (omega arith)) in
    let top : f n ≡ g n = h n (omega arith) in omega arith

pub sum_below-mul : (n : ℕ) (f : ℕ → ℕ) (c : ℕ) → sum_below n (λ k. f k * c) ≡ sum_below n f * c
sum_below-mul zero f c = omega arith
sum_below-mul (suc n) f c =
    let below : sum_below n (λ k. f k * c) ≡ sum_below n f * c = sum_below-mul n f c in omega arith

-- two sums whose terms differ at one number alone
pub sum_below-change : (n : ℕ) (f g : ℕ → ℕ) (i : ℕ) → i < n → ((k : ℕ) → k < n → k ≢ i → f k ≡ g k) → sum_below n f + g i ≡ sum_below n g + f i
sum_below-change zero f g i l h = absurd (omega arith)
sum_below-change (suc n) f g i l h =
    elim (cases_lt i n) [
      | inl low ↦
          let below : sum_below n f + g i ≡ sum_below n g + f i = sum_below-change n f g i low (λ k m ne. h k (omega arith) ne) in
          let top : f n ≡ g n = h n (omega arith) (omega arith) in omega arith
      | inr high ↦
          let at : i ≡ n = omega arith in
          let below : sum_below n f ≡ sum_below n g = sum_below-same n f g (λ k m. h k (omega arith) (omega arith)) in
          let first : f i ≡ f n = ap f at in
          let second : g i ≡ g n = ap g at in omega arith
    ]

pub sum_below-lt : (n : ℕ) (f g : ℕ → ℕ) (i : ℕ) → i < n → ((k : ℕ) → k < n → f k ≤ g k) → f i < g i → sum_below n f < sum_below n g
sum_below-lt zero f g i l h s = absurd (omega arith)
sum_below-lt (suc n) f g i l h s =
    elim (cases_lt i n) [
      | inl low ↦
          let below : sum_below n f < sum_below n g = sum_below-lt n f g i low (λ k m. h k (omega arith)) s in
          let top : f n ≤ g n = h n (omega arith) in omega arith
      | inr high ↦
          let at : i ≡ n = omega arith in
          let below : sum_below n f ≤ sum_below n g = sum_below-le n f g (λ k m. h k (omega arith)) in
          let first : f i ≡ f n = ap f at in
          let second : g i ≡ g n = ap g at in omega arith
    ]

pub le-sum_below : (n : ℕ) (f : ℕ → ℕ) (i : ℕ) → i < n → f i ≤ sum_below n f
le-sum_below zero f i l = absurd (omega arith)
le-sum_below (suc n) f i l =
    elim (cases_lt i n) [
      | inl low ↦ let below : f i ≤ sum_below n f = le-sum_below n f i low in omega arith
      | inr high ↦ let at : i ≡ n = omega arith in let first : f i ≡ f n = ap f at in omega arith
    ]

pub sum_below_front_le : (n : ℕ) (f : ℕ → ℕ) (i : ℕ) → i ≤ n → sum_below i f ≤ sum_below n f
sum_below_front_le zero f i l = let at : i ≡ 0 = omega arith in let e : sum_below i f ≡ sum_below 0 f = ap (λ k. sum_below k f) at in omega arith
sum_below_front_le (suc n) f i l =
    elim (cases_lt n i) [
      | inl past ↦ let at : i ≡ suc n = omega arith in let e : sum_below i f ≡ sum_below (suc n) f = ap (λ k. sum_below k f) at in omega arith
      | inr within ↦ let h : sum_below i f ≤ sum_below n f = sum_below_front_le n f i within in omega arith
    ]

-- the sum so far and the next term are within the whole sum
pub sum_below_more_le : (n : ℕ) (f : ℕ → ℕ) (i : ℕ) → i < n → sum_below i f + f i ≤ sum_below n f
sum_below_more_le n f i l = sum_below_front_le n f (suc i) l

-- the next sum
pub sum_below_more : (f : ℕ → ℕ) (i : ℕ) → sum_below (i + 1) f ≡ sum_below i f + f i
sum_below_more f i = let e : sum_below (i + 1) f ≡ sum_below (suc i) f = ap (λ k. sum_below k f) (let s : i + 1 ≡ suc i = omega arith in s) in omega arith

pub sum_below-plus : (n : ℕ) (f g : ℕ → ℕ) → sum_below n (λ k. f k + g k) ≡ sum_below n f + sum_below n g
sum_below-plus zero f g = omega arith
sum_below-plus (suc n) f g = let below : sum_below n (λ k. f k + g k) ≡ sum_below n f + sum_below n g = sum_below-plus n f g in omega arith

pub sum_below-zero : (n : ℕ) (f : ℕ → ℕ) → ((k : ℕ) → k < n → f k ≡ 0) → sum_below n f ≡ 0
sum_below-zero zero f h = omega arith
sum_below-zero (suc n) f h = let below : sum_below n f ≡ 0 = sum_below-zero n f (λ k l. h k (omega arith)) in omega (arith, h n (omega arith))

-- two sums in either order
pub sum_below-swap : (m n : ℕ) (f : ℕ → ℕ → ℕ) → sum_below m (λ i. sum_below n (λ k. f i k)) ≡ sum_below n (λ k. sum_below m (λ i. f i k))
sum_below-swap zero n f = sym (sum_below-zero n (λ k. 0) (λ k l. omega arith))
sum_below-swap (suc m) n f =
    let below : sum_below m (λ i. sum_below n (λ k. f i k)) ≡ sum_below n (λ k. sum_below m (λ i. f i k)) = sum_below-swap m n f in
    let last : sum_below n (λ k. sum_below m (λ i. f i k) + f m k) ≡ sum_below n (λ k. sum_below m (λ i. f i k)) + sum_below n (λ k. f m k) =
    sum_below-plus n (λ k. sum_below m (λ i. f i k)) (λ k. f m k) in omega arith

-- each term is at most m
pub sum_below-most : (n : ℕ) (f : ℕ → ℕ) (m : ℕ) → ((k : ℕ) → k < n → f k ≤ m) → sum_below n f ≤ n * m
sum_below-most zero f m h = omega arith
sum_below-most (suc n) f m h = let below : sum_below n f ≤ n * m = sum_below-most n f m (λ k l. h k (omega arith)) in omega (arith, h n (omega arith))

-- a sum that is not 0 has a term that is not 0
pub record SomeTerm (n : ℕ) (f : ℕ → ℕ) : Type 0 where
  pub index : ℕ
  pub below : index < n
  pub positive : 0 < f index

pub sum_below-positive : (n : ℕ) (f : ℕ → ℕ) → 0 < sum_below n f → SomeTerm n f
sum_below-positive zero f h = absurd (omega arith)
sum_below-positive (suc n) f h =
    elim (cases_lt 0 (f n)) [
      | inl here ↦ record { index = n; below = omega arith; positive = here }
      | inr none ↦
          let rest : SomeTerm n f = sum_below-positive n f (omega arith) in
          record { index = rest.index; below = omega (arith, rest.below); positive = rest.positive }
    ]
