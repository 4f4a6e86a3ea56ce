-- Lists of the first numbers of a function, and their sums.
use Rattle.std.proofs.Common.{◌≡◌, ℕ, zero, suc, ◌+◌, ◌-◌, ◌*◌, ◌/◌, ◌%◌, ◌<◌, ◌≤◌, List, [], ◌∷◌, length, sum, take, drop, replicate, slice_index, slice_set, get_or-set_same, get_or-set_other, arith, inl, inr, refl, ap, sym, ◌∙◌}
use Rattle.std.proofs.lemmas.Bool.{cases_lt, cases_eq}
use Rattle.std.proofs.lemmas.List.{ext_get_or, get_or-replicate, get_or_past, get_or-take, get_or-drop, length-replicate, length-set}
use Rattle.std.proofs.lemmas.List.Sums.{sum_by-cons}
use Rattle.ltm_units.specs.Sums.{sum_below}
use Rattle.ltm_units.proofs.Sums.{sum_below_more}
use Rattle.ltm_units.specs.Nested.{nested_split}
use Rattle.ltm_units.proofs.Splits.{nested_split-le}
use Rattle.ltm_curve.specs.First.{list_below}

-- the sum from the front
pub sum_below-front : (n : ℕ) (f : ℕ → ℕ) → sum_below (suc n) f ≡ f 0 + sum_below n (λ k. f (suc k))
sum_below-front zero f = omega arith
sum_below-front (suc n) f = let h : sum_below (suc n) f ≡ f 0 + sum_below n (λ k. f (suc k)) = sum_below-front n f in omega arith

pub sum-list_below : (n : ℕ) (f : ℕ → ℕ) → sum (list_below n f) ≡ sum_below n f
sum-list_below zero f = refl
sum-list_below (suc n) f =
    let e : sum (f 0 ∷ list_below n (λ k. f (suc k))) ≡ f 0 + sum (list_below n (λ k. f (suc k))) = sum_by-cons (λ x. x) (f 0) (list_below n (λ k. f (suc k))) in
    let h : sum (list_below n (λ k. f (suc k))) ≡ sum_below n (λ k. f (suc k)) = sum-list_below n (λ k. f (suc k)) in omega (arith, e, sum_below-front n f)

pub length-list_below : (n : ℕ) (f : ℕ → ℕ) → length (list_below n f) ≡ n
length-list_below zero f = refl
length-list_below (suc n) f = ap suc (length-list_below n (λ k. f (suc k)))

pub index-list_below : (n : ℕ) (f : ℕ → ℕ) (k : ℕ) → k < n → slice_index (list_below n f) k ≡ f k
index-list_below zero f k l = absurd (omega arith)
index-list_below (suc n) f zero l = refl
index-list_below (suc n) f (suc k) l = index-list_below n (λ i. f (suc i)) k (omega arith)

-- the sum over a list's places
pub sum_below-list : (xs : List ℕ) → sum_below (length xs) (slice_index xs) ≡ sum xs
sum_below-list [] = refl
sum_below-list (x ∷ xs) =
    let e : sum (x ∷ xs) ≡ x + sum xs = sum_by-cons (λ y. y) x xs in
    let h : sum_below (length xs) (slice_index xs) ≡ sum xs = sum_below-list xs in omega (arith, e, sum_below-front (length xs) (slice_index (x ∷ xs)))

pub nothing_splits : (xs : List ℕ) (k : ℕ) → slice_index (nested_split 0 xs) k ≡ 0
nothing_splits xs k = omega (arith, nested_split-le xs 0 k)

pub sum_below-minus : (n : ℕ) (f g : ℕ → ℕ) → ((k : ℕ) → k < n → f k ≤ g k) → sum_below n (λ k. g k - f k) + sum_below n f ≡ sum_below n g
sum_below-minus zero f g h = omega arith
sum_below-minus (suc n) f g h =
    let below : sum_below n (λ k. g k - f k) + sum_below n f ≡ sum_below n g = sum_below-minus n f g (λ k l. h k (omega arith)) in omega (arith, h n (omega arith))

-- a list that is known by place
pub list_from : (n : ℕ) (f : ℕ → ℕ) (xs : List ℕ) → length xs ≡ n → ((k : ℕ) → k < n → slice_index xs k ≡ f k) → xs ≡ list_below n f
list_from n f xs long h = ext_get_or 0 xs (list_below n f) (long ∙ sym (length-list_below n f)) (λ k l. h k (omega arith) ∙ sym (index-list_below n f k (omega arith)))

-- lists of zeros
pub zero_index : (n i : ℕ) → slice_index (replicate n 0) i ≡ 0
zero_index n i = elim (cases_lt i n) [ inl low ↦ get_or-replicate n i 0 0 low | inr past ↦ get_or_past (replicate n 0) i 0 (omega (arith, length-replicate {A = ℕ} n 0)) ]

-- a part of a list of zeros
pub none_at : (n many d : ℕ) → d < n → slice_index (take n (replicate many 0)) d ≡ 0
none_at n many d l = get_or-take n (replicate many 0) d 0 l ∙ zero_index many d

-- a part of a list from a place on
pub part_at : (xs : List ℕ) (a n i : ℕ) → i < n → slice_index (take (a + n - a) (drop a xs)) i ≡ slice_index xs (a + i)
part_at xs a n i l = get_or-take (a + n - a) (drop a xs) i 0 (omega arith) ∙ get_or-drop a xs i 0

-- a list whose first places hold the values of a function, and the next value
pub written : (xs : List ℕ) (f : ℕ → ℕ) (k v : ℕ) → ((i : ℕ) → i < k → slice_index xs i ≡ f i) → k < length xs → v ≡ f k → (i : ℕ) → i < k + 1 → slice_index (slice_set xs k v) i ≡ f i
written xs f k v all l here i m =
    elim (cases_eq i k) [
      | inl same ↦ ap (slice_index (slice_set xs k v)) same ∙ (get_or-set_same xs k v 0 l ∙ (here ∙ ap f (sym same)))
      | inr other ↦ get_or-set_other xs k i v 0 other ∙ all i (omega arith)
    ]

-- a list of two is written
pub written_two : (xs : List ℕ) (f : ℕ → ℕ) (n a b : ℕ) → n ≡ 2 → length xs ≡ n → a ≡ f 0 → b ≡ f 1 → (d : ℕ) → d < n → slice_index (slice_set (slice_set xs 0 a) 1 b) d ≡ f d
written_two xs f n a b two long first other d l =
    let one : (i : ℕ) → i < 1 → slice_index (slice_set xs 0 a) i ≡ f i = λ i m. written xs f 0 a (λ k z. absurd (omega arith)) (omega arith) first i (omega arith) in
    written (slice_set xs 0 a) f 1 b one (omega (arith, length-set xs 0 a)) other d (omega arith)

-- a sum up to whole fours, and two more where there are
pub two_more : (n : ℕ) (f : ℕ → ℕ) → (n / 2) % 2 ≡ 1 → sum_below (n / 4 * 4) f + (f (n / 4 * 4) + f (n / 4 * 4 + 1)) ≡ sum_below (n / 2 * 2) f
two_more n f odd =
    let at : n / 4 * 4 + 1 + 1 ≡ n / 2 * 2 = omega (arith, odd) in
    omega (arith, sum_below_more f (n / 4 * 4), sum_below_more f (n / 4 * 4 + 1), ap (λ (m : ℕ). sum_below m f) at)
