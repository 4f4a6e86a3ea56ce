-- What an arm moves to a destination by an out-link, by either rule.
use Rattle.std.proofs.Common.{◌≡◌, ℕ, zero, suc, ◌+◌, ◌-◌, ◌*◌, ◌/◌, ◌<◌, ◌≤◌, ◌⊎◌, Bool, true, false, cond, List, [], ◌∷◌, map, sum, length, slice_index, arith, inl, inr, refl, ap, sym, ◌∙◌}
use Rattle.std.specs.List.{range_with_len}
use Rattle.std.proofs.Math.Nat.{le_of_mul-le-mul_right, mul-le-mul_right, div-mul-le_self, mul-div_right}
use Rattle.std.proofs.lemmas.Nat.{le-div}
use Rattle.std.proofs.lemmas.Bool.{cases_lt}
use Rattle.std.proofs.lemmas.List.{get_or_past}
use Rattle.std.proofs.lemmas.List.Sums.{sum_by-cons}
use Rattle.std.proofs.lemmas.List.FromFn.{length-map-range_with_len, get_or-map-range_with_len, sum_by-map-range_with_len_more}
use Rattle.ltm_units.specs.Sums.{sum_below}
use Rattle.ltm_units.specs.Nested.{nested_split}
use Rattle.ltm_units.proofs.Sums.{sum_below-same, sum_below-zero, sum_below-most}
use Rattle.ltm_units.proofs.Splits.{share_within, shares_rise_holds, whole_splits_holds}
use Rattle.ltm_node.specs.Shape.{is_own}
use Rattle.ltm_node.specs.Inputs.{Inputs, sending}
use Rattle.ltm_node.specs.Demands.{part, sent_into}
use Rattle.ltm_node.specs.Solvable.{IsSolvable}
use Rattle.ltm_node.specs.Step.{parts_into, turned, moved}
use Rattle.ltm_node.proofs.Ranges.{fraction_of_le, part_small, part_own, part_none, nothing_of}
use Rattle.ltm_node.proofs.Splitting.{split_without, split_alone, sum_of_one}

-- ---- either of two

pub bool_cases : (b : Bool) → (b ≡ true) ⊎ (b ≡ false)
bool_cases true = inl refl
bool_cases false = inr refl

either_is : (b : Bool) (x y v : ℕ) → x ≡ v → y ≡ v → cond b x y ≡ v
either_is true x y v first second = first
either_is false x y v first second = second

either_le : (b : Bool) (x y m : ℕ) → x ≤ m → y ≤ m → cond b x y ≤ m
either_le true x y m first second = first
either_le false x y m first second = second

-- ---- fractions

floor_le : (p d q e s : ℕ) → 0 < d → 0 < e → p * e ≡ q * d → p * s / d ≤ q * s / e
floor_le p d q e s pos pos' h =
    le-div (p * s / d) (q * s) e pos'
    (le_of_mul-le-mul_right {k = d} (omega (arith, mul-le-mul_right e (div-mul-le_self (p * s) d), ap (λ z. z * s) h)) pos)

-- equal fractions give equal floors
pub floor_same : (p d q e s : ℕ) → 0 < d → 0 < e → p * e ≡ q * d → p * s / d ≡ q * s / e
floor_same p d q e s pos pos' h = omega (arith, floor_le p d q e s pos pos' h, floor_le q e p d s pos' pos (sym h))

-- ---- sums over a list

sum_below-front : (n : ℕ) (f : ℕ → ℕ) → sum_below (suc n) f ≡ f 0 + sum_below n (λ k. f (suc k))
sum_below-front zero f = omega arith
sum_below-front (suc n) f = let below : sum_below (suc n) f ≡ f 0 + sum_below n (λ k. f (suc k)) = sum_below-front n f in omega arith

pub sum_below-list : (xs : List ℕ) (k : ℕ) → sum_below k (slice_index xs) ≤ sum xs
sum_below-list [] k = omega (arith, sum_below-zero k (slice_index []) (λ j l. refl))
sum_below-list (x ∷ xs) zero = omega arith
sum_below-list (x ∷ xs) (suc k) =
    let rest : sum_below k (slice_index xs) ≤ sum xs = sum_below-list xs k in
    let front : sum_below (suc k) (slice_index (x ∷ xs)) ≡ x + sum_below k (slice_index xs) = sum_below-front k (slice_index (x ∷ xs)) in
    omega (arith, sum_by-cons (λ y. y) x xs)

pub nested_sum_le : (xs : List ℕ) (m : ℕ) → sum (nested_split m xs) ≤ m
nested_sum_le [] m = omega arith
nested_sum_le (x ∷ xs) m =
    let share : ℕ = m * x / (x + sum xs) in
    let rest : sum (nested_split (m - share) xs) ≤ m - share = nested_sum_le xs (m - share) in
    omega (arith, share_within m x (x + sum xs) (omega arith), sum_by-cons (λ y. y) share (nested_split (m - share) xs))

sum_listed : (m : ℕ) (f : ℕ → ℕ) → sum (map f (range_with_len 0 m)) ≡ sum_below m f
sum_listed zero f = refl
sum_listed (suc m) f =
    let next : m + 1 ≡ suc m = omega arith in
    ap (λ (z : ℕ). sum (map f (range_with_len 0 z))) (sym next)
    ∙ (sum_by-map-range_with_len_more (λ x. x) f 0 m m (omega arith) ∙ ap (λ z. z + f m) (sum_listed m f))

-- ---- the parts of a turn

pub parts_long : (n : Inputs) (i j : ℕ) → length (parts_into n i j) ≡ n.shape.destinations
parts_long n i j = length-map-range_with_len (λ d. part n i d j) 0 n.shape.destinations

pub parts_at : (n : Inputs) (i d j : ℕ) → d < n.shape.destinations → slice_index (parts_into n i j) d ≡ part n i d j
parts_at n i d j l = get_or-map-range_with_len (λ d. part n i d j) 0 n.shape.destinations d d 0 l (omega arith)

pub parts_sum : (n : Inputs) (i j : ℕ) → sum (parts_into n i j) ≡ sent_into n i j
parts_sum n i j = sum_listed n.shape.destinations (λ d. part n i d j)

parts_within : (n : Inputs) (i d j : ℕ) → slice_index (parts_into n i j) d ≤ part n i d j
parts_within n i d j =
    elim (cases_lt d n.shape.destinations) [
      | inl l ↦ omega (arith, parts_at n i d j l)
      | inr past ↦ omega (arith, get_or_past (parts_into n i j) d 0 (omega (arith, parts_long n i j)))
    ]

-- ---- what falls to a destination of a turn

turned_le : (n : Inputs) (e : ℕ) (p : ℕ → ℕ) (i j : ℕ) → p i ≤ e → turned n e p i j ≤ sum (parts_into n i j)
turned_le n e p i j f = omega (arith, fraction_of_le (p i) e (sent_into n i j) f, parts_sum n i j)

turn_le : (n : Inputs) (e : ℕ) (p : ℕ → ℕ) (i d j : ℕ) → p i ≤ e → slice_index (nested_split (turned n e p i j) (parts_into n i j)) d ≤ part n i d j
turn_le n e p i d j f =
    let xs : List ℕ = parts_into n i j in
    omega (
      arith,
      shares_rise_holds xs (turned n e p i j) (sum xs) (turned_le n e p i j f) d,
      ap (λ (z : List ℕ). slice_index z d) (whole_splits_holds xs),
      parts_within n i d j,
    )

-- ---- by either rule

pub moved_by_turn : (n : Inputs) (e : ℕ) (p : ℕ → ℕ) (i d j : ℕ) → n.shape.by_turn ≡ true → moved n e p i d j ≡ slice_index (nested_split (turned n e p i j) (parts_into n i j)) d
moved_by_turn n e p i d j is = ap (λ (b : Bool). cond b (slice_index (nested_split (turned n e p i j) (parts_into n i j)) d) (p i * part n i d j / e)) is

pub moved_by_part : (n : Inputs) (e : ℕ) (p : ℕ → ℕ) (i d j : ℕ) → n.shape.by_turn ≡ false → moved n e p i d j ≡ p i * part n i d j / e
moved_by_part n e p i d j is = ap (λ (b : Bool). cond b (slice_index (nested_split (turned n e p i j) (parts_into n i j)) d) (p i * part n i d j / e)) is

-- no more moves than is sent
pub moved_le : (n : Inputs) (e : ℕ) (p : ℕ → ℕ) (i d j : ℕ) → p i ≤ e → moved n e p i d j ≤ part n i d j
moved_le n e p i d j f =
    either_le n.shape.by_turn (slice_index (nested_split (turned n e p i j) (parts_into n i j)) d) (p i * part n i d j / e) (part n i d j)
    (turn_le n e p i d j f) (fraction_of_le (p i) e (part n i d j) f)

-- a part that is 0 moves nothing
pub moved_none : (n : Inputs) (e : ℕ) (p : ℕ → ℕ) (i d j : ℕ) → part n i d j ≡ 0 → moved n e p i d j ≡ 0
moved_none n e p i d j none =
    let nothing : slice_index (parts_into n i j) d ≡ 0 = omega (arith, parts_within n i d j) in
    either_is n.shape.by_turn (slice_index (nested_split (turned n e p i j) (parts_into n i j)) d) (p i * part n i d j / e) 0
    (split_without (parts_into n i j) (turned n e p i j) d nothing) (nothing_of (p i) e (part n i d j) none)

pub moved_own : (n : Inputs) (e : ℕ) (p : ℕ → ℕ) (i d j : ℕ) → is_own n.shape d ≡ true → moved n e p i d j ≡ 0
moved_own n e p i d j own = moved_none n e p i d j (part_own n i d j own)

pub moved_nothing : (n : Inputs) (e : ℕ) (p : ℕ → ℕ) (i d j : ℕ) → sending n i d ≡ 0 → moved n e p i d j ≡ 0
moved_nothing n e p i d j none = moved_none n e p i d j (part_none n i d j none)

-- equal fractions move the same
pub moved_same : (n : Inputs) (d e : ℕ) (p q : ℕ → ℕ) (i k j : ℕ) → 0 < d → 0 < e → p i * e ≡ q i * d → moved n d p i k j ≡ moved n e q i k j
moved_same n d e p q i k j pos pos' h =
    let xs : List ℕ = parts_into n i j in
    let turn : turned n d p i j ≡ turned n e q i j = floor_same (p i) d (q i) e (sent_into n i j) pos pos' h in
    let one : p i * part n i k j / d ≡ q i * part n i k j / e = floor_same (p i) d (q i) e (part n i k j) pos pos' h in
    ap (λ (z : ℕ). cond n.shape.by_turn (slice_index (nested_split z xs) k) (p i * part n i k j / d)) turn
    ∙ ap (λ (z : ℕ). cond n.shape.by_turn (slice_index (nested_split (turned n e q i j) xs) k) z) one

-- where an arm moves all, it moves the parts
pub all_of : (x : ℕ) → 1 * x / 1 ≡ x
all_of x = mul-div_right x (omega arith)

pub moved_whole : (n : Inputs) (p : ℕ → ℕ) (i d j : ℕ) → p i ≡ 1 → d < n.shape.destinations → moved n 1 p i d j ≡ part n i d j
moved_whole n p i d j one l =
    let xs : List ℕ = parts_into n i j in
    let turn : turned n 1 p i j ≡ sum xs = ap (λ (z : ℕ). z * sent_into n i j / 1) one ∙ (all_of (sent_into n i j) ∙ sym (parts_sum n i j)) in
    either_is n.shape.by_turn (slice_index (nested_split (turned n 1 p i j) xs) d) (p i * part n i d j / 1) (part n i d j)
    (ap (λ (z : ℕ). slice_index (nested_split z xs) d) turn ∙ (ap (λ (z : List ℕ). slice_index z d) (whole_splits_holds xs) ∙ parts_at n i d j l))
    (ap (λ (z : ℕ). z * part n i d j / 1) one ∙ all_of (part n i d j))

-- to one destination alone both rules are one
pub moved_alone : (n : Inputs) (e : ℕ) (p : ℕ → ℕ) (i j : ℕ) → n.shape.destinations ≡ 1 → moved n e p i 0 j ≡ p i * part n i 0 j / e
moved_alone n e p i j only =
    let xs : List ℕ = parts_into n i j in
    let whole : sent_into n i j ≡ part n i 0 j = sum_of_one n.shape.destinations (λ d. part n i d j) only in
    let first : slice_index xs 0 ≡ part n i 0 j = parts_at n i 0 j (omega arith) in
    elim (cases_lt 0 (part n i 0 j)) [
      | inl some ↦
          either_is n.shape.by_turn (slice_index (nested_split (turned n e p i j) xs) 0) (p i * part n i 0 j / e) (p i * part n i 0 j / e)
          (split_alone xs (turned n e p i j) 0 (omega (arith, parts_sum n i j)) (omega (arith, parts_sum n i j)) ∙ ap (λ (z : ℕ). p i * z / e) whole) refl
      | inr none ↦
          let nothing : part n i 0 j ≡ 0 = omega arith in
          moved_none n e p i 0 j nothing ∙ sym (nothing_of (p i) e (part n i 0 j) nothing)
    ]

-- what an arm moves by an out-link, over the denominator
floors_le : (n : ℕ) (p d : ℕ) (s : ℕ → ℕ) → sum_below n (λ k. p * s k / d) * d ≤ p * sum_below n s
floors_le zero p d s = omega arith
floors_le (suc n) p d s =
    let below : sum_below n (λ k. p * s k / d) * d ≤ p * sum_below n s = floors_le n p d s in
    omega (arith, div-mul-le_self (p * s n) d)

pub moved_into_le : (n : Inputs) (e : ℕ) (p : ℕ → ℕ) (i j : ℕ) → sum_below n.shape.destinations (λ d. moved n e p i d j) * e ≤ p i * sent_into n i j
moved_into_le n e p i j =
    let m : ℕ = n.shape.destinations in
    elim (bool_cases n.shape.by_turn) [
      | inl is ↦
          let t : ℕ = turned n e p i j in
          let split : List ℕ = nested_split t (parts_into n i j) in
          let same : sum_below m (λ d. moved n e p i d j) ≡ sum_below m (slice_index split) = sum_below-same m (λ d. moved n e p i d j) (slice_index split) (λ d l. moved_by_turn n e p i d j is) in
          let most : sum_below m (λ d. moved n e p i d j) ≤ t = omega (arith, sum_below-list split m, nested_sum_le (parts_into n i j) t) in
          omega (arith, mul-le-mul_right e most, div-mul-le_self (p i * sent_into n i j) e)
      | inr is ↦
          let same : sum_below m (λ d. moved n e p i d j) ≡ sum_below m (λ d. p i * part n i d j / e) = sum_below-same m (λ d. moved n e p i d j) (λ d. p i * part n i d j / e) (λ d l. moved_by_part n e p i d j is) in
          omega (arith, ap (λ (z : ℕ). z * e) same, floors_le m (p i) e (λ d. part n i d j))
    ]

-- ---- sizes

pub moved_small : (n : Inputs) (e : ℕ) (p : ℕ → ℕ) (i d j : ℕ) → IsSolvable n → p i ≤ e → i < n.shape.arms → d < n.shape.destinations → moved n e p i d j ≤ 32000
moved_small n e p i d j h f l m = omega (arith, moved_le n e p i d j f, part_small n i d j h l m)

pub moved_out_small : (n : Inputs) (e : ℕ) (p : ℕ → ℕ) (i d k : ℕ) → IsSolvable n → p i ≤ e → i < n.shape.arms → d < n.shape.destinations → sum_below k (λ j. moved n e p i d j) ≤ k * 32000
moved_out_small n e p i d k h f l m = sum_below-most k (λ j. moved n e p i d j) 32000 (λ j b. moved_small n e p i d j h f l m)

pub moved_in_small : (n : Inputs) (e : ℕ) (p : ℕ → ℕ) (j d k : ℕ) → IsSolvable n → ((i : ℕ) → i < n.shape.arms → p i ≤ e) → d < n.shape.destinations → k ≤ n.shape.arms → sum_below k (λ i. moved n e p i d j) ≤ k * 32000
moved_in_small n e p j d k h f m few = sum_below-most k (λ i. moved n e p i d j) 32000 (λ i b. moved_small n e p i d j h (f i (omega arith)) (omega arith) m)

pub sent_by_small : (n : Inputs) (e : ℕ) (p : ℕ → ℕ) (i j k : ℕ) → IsSolvable n → p i ≤ e → i < n.shape.arms → k ≤ n.shape.destinations → sum_below k (λ d. moved n e p i d j) ≤ k * 32000
sent_by_small n e p i j k h f l few = sum_below-most k (λ d. moved n e p i d j) 32000 (λ d b. moved_small n e p i d j h f l (omega arith))
