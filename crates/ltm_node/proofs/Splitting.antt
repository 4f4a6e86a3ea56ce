-- An amount is split out-link by out-link.
use Rattle.std.proofs.Common.{◌≡◌, ◌≢◌, ℕ, zero, suc, ◌+◌, ◌-◌, ◌*◌, ◌/◌, ◌<◌, ◌≤◌, List, [], ◌∷◌, sum, drop, get_or, length, slice_index, arith, ap, ◌∙◌, sym, inl, inr}
use Rattle.std.proofs.Math.Nat.{mul-div_cancel}
use Rattle.std.proofs.lemmas.Bool.{cases_lt}
use Rattle.std.proofs.lemmas.List.Sums.{sum_by-cons}
use Rattle.ltm_units.specs.Sums.{sum_below}
use Rattle.ltm_units.specs.Nested.{nested_split}
use Rattle.ltm_units.proofs.Splits.{nested_split-le, nested_split-zero}
use Rattle.ltm_units.proofs.Sums.{sum_below_more, sum_below-zero}
use Rattle.ltm_node.specs.Splitting.{IsSplitUpTo, HasOne, HasTwo}
use Rattle.ltm_node.proofs.Ranges.{nothing_of, weight_within}

pub some_weight : (ws : List ℕ) (out : ℕ) → 0 < sum (drop out ws) → out < length ws
some_weight [] zero some = absurd (omega arith)
some_weight [] (suc out) some = absurd (omega arith)
some_weight (x ∷ xs) zero some = omega arith
some_weight (x ∷ xs) (suc out) some = omega (arith, some_weight xs out some)

pub rest_split : (ws : List ℕ) (out : ℕ) → out < length ws → sum (drop out ws) ≡ get_or ws out 0 + sum (drop (suc out) ws)
rest_split [] out l = absurd (omega arith)
rest_split (x ∷ xs) zero l = sum_by-cons (λ y. y) x xs
rest_split (x ∷ xs) (suc out) l = rest_split xs out (omega arith)

left_split : (ws : List ℕ) (out left : ℕ) → out < length ws →
    let share = left * get_or ws out 0 / sum (drop out ws) in nested_split left (drop out ws) ≡ share ∷ nested_split (left - share) (drop (suc out) ws)
left_split [] out left l = absurd (omega arith)
left_split (x ∷ xs) zero left l = let whole : sum (x ∷ xs) ≡ x + sum xs = sum_by-cons (λ y. y) x xs in ap (λ t. left * x / t ∷ nested_split (left - left * x / t) xs) (sym whole)
left_split (x ∷ xs) (suc out) left l = left_split xs out left (omega arith)

pub out_within : (amount : ℕ) (ws : List ℕ) (out left rest : ℕ) → IsSplitUpTo amount ws out left rest → 0 < rest → out < length ws
out_within amount ws out left rest h some = some_weight ws out (omega (arith, h.whole))

pub weight_within_rest : (amount : ℕ) (ws : List ℕ) (out left rest : ℕ) → IsSplitUpTo amount ws out left rest → out < length ws → get_or ws out 0 ≤ rest
weight_within_rest amount ws out left rest h l = omega (arith, h.whole, rest_split ws out l)

-- what the next out-link gets
pub part_next : (amount : ℕ) (ws : List ℕ) (out left rest v : ℕ) → IsSplitUpTo amount ws out left rest → out < length ws → v ≡ left * get_or ws out 0 / rest → v ≡ slice_index (nested_split amount ws) out
part_next amount ws out left rest v h l is =
    is
    ∙ (ap (λ t. left * get_or ws out 0 / t) h.whole ∙ (sym (ap (λ zs. slice_index zs 0) (left_split ws out left l)) ∙ (sym (h.parts 0) ∙ ap (slice_index (nested_split amount ws)) (let e : out + 0 ≡ out = omega arith in e))))

pub split_next : (amount : ℕ) (ws : List ℕ) (out left rest v : ℕ) → IsSplitUpTo amount ws out left rest → out < length ws → v ≡ left * get_or ws out 0 / rest → IsSplitUpTo amount ws (out + 1) (left - v) (rest - get_or ws out 0)
split_next amount ws out left rest v h l is =
    let share : v ≡ left * get_or ws out 0 / sum (drop out ws) = is ∙ ap (λ t. left * get_or ws out 0 / t) h.whole in
    let next : out + 1 ≡ suc out = omega arith in
    record {
      within = omega (arith, h.within);
      fewer = omega (arith, h.fewer);
      whole = omega (arith, h.whole, rest_split ws out l, ap (λ z. sum (drop z ws)) next);
      parts = λ k.
          let at : out + 1 + k ≡ out + suc k = omega arith in
          ap (slice_index (nested_split amount ws)) at
          ∙ (h.parts (suc k)
          ∙ (ap (λ zs. slice_index zs (suc k)) (left_split ws out left l)
          ∙ (sym (ap (λ z. slice_index (nested_split (left - z) (drop (suc out) ws)) k) share) ∙ sym (ap (λ z. slice_index (nested_split (left - v) (drop z ws)) k) next))));
    }

-- where no weight is left, the other out-links get nothing
pub split_ended : (amount : ℕ) (ws : List ℕ) (out left rest j : ℕ) → IsSplitUpTo amount ws out left rest → rest ≡ 0 → out ≤ j → slice_index (nested_split amount ws) j ≡ 0
split_ended amount ws out left rest j h none more =
    let at : j ≡ out + (j - out) = omega arith in
    let nothing : sum (drop out ws) ≡ 0 = omega (arith, h.whole) in
    let least : slice_index (nested_split 0 (drop out ws)) (j - out) ≤ 0 = nested_split-le (drop out ws) 0 (j - out) in
    ap (slice_index (nested_split amount ws)) at ∙ (h.parts (j - out) ∙ (ap (λ zs. slice_index zs (j - out)) (nested_split-zero (drop out ws) left nothing) ∙ omega arith))

-- a sum whose later terms are 0
pub sum_ended : (m k : ℕ) (f : ℕ → ℕ) → k ≤ m → ((j : ℕ) → k ≤ j → j < m → f j ≡ 0) → sum_below m f ≡ sum_below k f
sum_ended zero k f le none = let at : zero ≡ k = omega arith in ap (λ z. sum_below z f) at
sum_ended (suc m) k f le none =
    elim (cases_lt m k) [
      | inl less ↦ let at : suc m ≡ k = omega arith in ap (λ z. sum_below z f) at
      | inr more ↦ omega (arith, sum_ended m k f more (λ j l u. none j l (omega arith)), none m more (omega arith))
    ]

-- a sum of one term
pub sum_of_one : (k : ℕ) (f : ℕ → ℕ) → k ≡ 1 → sum_below k f ≡ f 0
sum_of_one k f one = let e : sum_below k f ≡ sum_below 1 f = ap (λ z. sum_below z f) one in omega arith

-- a sum with one term that may be above 0
pub sum_of_term : (m k : ℕ) (f : ℕ → ℕ) → k < m → ((j : ℕ) → j ≢ k → f j ≡ 0) → sum_below m f ≡ f k
sum_of_term m k f l none =
    omega (
      arith,
      sum_ended m (k + 1) f (omega arith) (λ j more _. none j (omega arith)),
      sum_below_more f k,
      sum_below-zero k f (λ j less. none j (omega arith)),
    )

-- a sum with two terms that may be above 0
pub sum_of_terms : (m i k : ℕ) (f : ℕ → ℕ) → i < k → k < m → ((j : ℕ) → j ≢ i → j ≢ k → f j ≡ 0) → sum_below m f ≡ f i + f k
sum_of_terms m i k f o l none =
    omega (
      arith,
      sum_ended m (k + 1) f (omega arith) (λ j more _. none j (omega arith) (omega arith)),
      sum_below_more f k,
      sum_ended k (i + 1) f (omega arith) (λ j more less. none j (omega arith) (omega arith)),
      sum_below_more f i,
      sum_below-zero i f (λ j less. none j (omega arith) (omega arith)),
    )

-- ---- where all weight is one out-link's or two's

two_within : (ws : List ℕ) (i j : ℕ) → i ≢ j → get_or ws i 0 + get_or ws j 0 ≤ sum ws
two_within [] i j ne = omega arith
two_within (x ∷ xs) zero zero ne = absurd (omega arith)
two_within (x ∷ xs) zero (suc j) ne = omega (arith, weight_within xs j, sum_by-cons (λ y. y) x xs)
two_within (x ∷ xs) (suc i) zero ne = omega (arith, weight_within xs i, sum_by-cons (λ y. y) x xs)
two_within (x ∷ xs) (suc i) (suc j) ne = omega (arith, two_within xs i j (omega arith), sum_by-cons (λ y. y) x xs)

three_within : (ws : List ℕ) (i j k : ℕ) → i ≢ j → i ≢ k → j ≢ k → get_or ws i 0 + get_or ws j 0 + get_or ws k 0 ≤ sum ws
three_within [] i j k ij ik jk = omega arith
three_within (x ∷ xs) zero zero k ij ik jk = absurd (omega arith)
three_within (x ∷ xs) zero (suc j) zero ij ik jk = absurd (omega arith)
three_within (x ∷ xs) (suc i) zero zero ij ik jk = absurd (omega arith)
three_within (x ∷ xs) zero (suc j) (suc k) ij ik jk = omega (arith, two_within xs j k (omega arith), sum_by-cons (λ y. y) x xs)
three_within (x ∷ xs) (suc i) zero (suc k) ij ik jk = omega (arith, two_within xs i k (omega arith), sum_by-cons (λ y. y) x xs)
three_within (x ∷ xs) (suc i) (suc j) zero ij ik jk = omega (arith, two_within xs i j (omega arith), sum_by-cons (λ y. y) x xs)
three_within (x ∷ xs) (suc i) (suc j) (suc k) ij ik jk =
    omega (arith, three_within xs i j k (omega arith) (omega arith) (omega arith), sum_by-cons (λ y. y) x xs)

pub one_alone : (ws : List ℕ) (out j : ℕ) → HasOne ws out → j ≢ out → get_or ws j 0 ≡ 0
one_alone ws out j h ne = omega (arith, two_within ws j out ne, h.all)

pub two_alone : (ws : List ℕ) (first second j : ℕ) → HasTwo ws first second → j ≢ first → j ≢ second → get_or ws j 0 ≡ 0
two_alone ws first second j h ne ne' = omega (arith, three_within ws j first second ne ne' (omega (arith, h.order)), h.all)

-- a weight of 0 gets nothing
pub split_without : (ws : List ℕ) (m k : ℕ) → get_or ws k 0 ≡ 0 → slice_index (nested_split m ws) k ≡ 0
split_without [] m k none = omega arith
split_without (x ∷ xs) m zero none = nothing_of m (x + sum xs) x none
split_without (x ∷ xs) m (suc k) none = split_without xs (m - m * x / (x + sum xs)) k none

-- what is behind a weight of 0 is split as if that were not there
past_none : (xs : List ℕ) (x m k : ℕ) → x ≡ 0 → slice_index (nested_split m (x ∷ xs)) (suc k) ≡ slice_index (nested_split m xs) k
past_none xs x m k none =
    let share : m * x / (x + sum xs) ≡ 0 = nothing_of m (x + sum xs) x none in
    let rest : m - m * x / (x + sum xs) ≡ m = omega arith in
    ap (λ z. slice_index (nested_split z xs) k) rest

-- the only weight gets all
pub split_alone : (ws : List ℕ) (m k : ℕ) → 0 < sum ws → get_or ws k 0 ≡ sum ws → slice_index (nested_split m ws) k ≡ m
split_alone [] m k some all = absurd (omega arith)
split_alone (x ∷ xs) m zero some all =
    let cons : sum (x ∷ xs) ≡ x + sum xs = sum_by-cons (λ y. y) x xs in
    let same : x + sum xs ≡ x = omega arith in
    ap (λ t. m * x / t) same ∙ mul-div_cancel m (omega arith)
split_alone (x ∷ xs) m (suc k) some all =
    let cons : sum (x ∷ xs) ≡ x + sum xs = sum_by-cons (λ y. y) x xs in
    let none : x ≡ 0 = omega (arith, weight_within xs k) in
    past_none xs x m k none ∙ split_alone xs m k (omega arith) (omega arith)

pub split_one : (ws : List ℕ) (m out : ℕ) → HasOne ws out → slice_index (nested_split m ws) out ≡ m
split_one ws m out h = split_alone ws m out h.some h.all

-- of two weights the first gets its share
first_of_two : (ws : List ℕ) (m i k : ℕ) → i < k → get_or ws i 0 + get_or ws k 0 ≡ sum ws → slice_index (nested_split m ws) i ≡ m * get_or ws i 0 / sum ws
first_of_two [] m i k o all = sym (nothing_of m 0 0 (omega arith))
first_of_two (x ∷ xs) m i zero o all = absurd (omega arith)
first_of_two (x ∷ xs) m zero (suc k) o all =
    let cons : sum (x ∷ xs) ≡ x + sum xs = sum_by-cons (λ y. y) x xs in
    ap (λ t. m * x / t) (sym cons)
first_of_two (x ∷ xs) m (suc i) (suc k) o all =
    let cons : sum (x ∷ xs) ≡ x + sum xs = sum_by-cons (λ y. y) x xs in
    let none : x ≡ 0 = omega (arith, two_within xs i k (omega arith)) in
    let same : sum xs ≡ sum (x ∷ xs) = omega arith in
    past_none xs x m i none ∙ (first_of_two xs m i k (omega arith) (omega arith) ∙ ap (λ t. m * get_or xs i 0 / t) same)

-- and the second gets what is left
second_of_two : (ws : List ℕ) (m i k : ℕ) → i < k → 0 < get_or ws k 0 → get_or ws i 0 + get_or ws k 0 ≡ sum ws → slice_index (nested_split m ws) k ≡ m - m * get_or ws i 0 / sum ws
second_of_two [] m i k o some all = absurd (omega arith)
second_of_two (x ∷ xs) m i zero o some all = absurd (omega arith)
second_of_two (x ∷ xs) m zero (suc k) o some all =
    let cons : sum (x ∷ xs) ≡ x + sum xs = sum_by-cons (λ y. y) x xs in
    split_alone xs (m - m * x / (x + sum xs)) k (omega (arith, weight_within xs k)) (omega arith) ∙ ap (λ t. m - m * x / t) (sym cons)
second_of_two (x ∷ xs) m (suc i) (suc k) o some all =
    let cons : sum (x ∷ xs) ≡ x + sum xs = sum_by-cons (λ y. y) x xs in
    let none : x ≡ 0 = omega (arith, two_within xs i k (omega arith)) in
    let same : sum xs ≡ sum (x ∷ xs) = omega arith in
    past_none xs x m k none ∙ (second_of_two xs m i k (omega arith) some (omega arith) ∙ ap (λ t. m - m * get_or xs i 0 / t) same)

pub split_first : (ws : List ℕ) (m first second : ℕ) → HasTwo ws first second → slice_index (nested_split m ws) first ≡ m * get_or ws first 0 / sum ws
split_first ws m first second h = first_of_two ws m first second h.order h.all

pub split_second : (ws : List ℕ) (m first second : ℕ) → HasTwo ws first second → slice_index (nested_split m ws) second ≡ m - m * get_or ws first 0 / sum ws
split_second ws m first second h = second_of_two ws m first second h.order h.some h.all
