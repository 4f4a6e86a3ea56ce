-- The first byte of a text that no amount has at its place, and what stands around the point where there is none.
use Rattle.std.proofs.Common.{ℕ, zero, suc, ◌≡◌, ◌+◌, ◌-◌, ◌<◌, ◌≤◌, ◌==◌, ◌&&◌, ◌||◌, ◌⊎◌, Bool, true, false, not, cond, if◌then◌else◌, List, length, take, drop, get_or, slice_index, Option, Some, None, Err, nat_lt, inl, inr, refl, sym, ap, ◌∙◌, arith, add-one, length-drop}
use Rattle.std.specs.List.{list_all, list_any, position_or_len, position, before_first, after_first}
use Rattle.std.proofs.lemmas.Bool.{cases_eq}
use Rattle.std.proofs.lemmas.List.{get_or-take, get_or-drop, length-take, take_all}
use Rattle.std.proofs.lemmas.List.Folds.{list_any_more, list_any_at}
use Rattle.std.proofs.lemmas.List.Sums.{list_all-from_AllPass, fails_before_first, passes_at_first}
use Rattle.std.proofs.lemmas.List.Elements.{All-from_get_or}
use Rattle.std.proofs.Math.Seq.{take-length}
use Rattle.std.proofs.lemmas.Grind.{common_steps}
use Rattle.std.proofs.lemmas.Bool.Decides.{nat_tests}
use Rattle.ltm_units.specs.declared.numbers.NumberFault.TheVariants.{Empty, BadByte}
use Rattle.ltm_units.specs.Numbers.{is_digit, is_point, is_bad_at, IsFirstBad, first_below, or_else, bad_place, sized, checked, vehicles}

-- a test that holds nowhere below a number, and then at it or not
pub first_here : (test : ℕ → Bool) (n : ℕ) → first_below test n ≡ None → test n ≡ true → first_below test (n + 1) ≡ Some n
first_here test n none holds = rw (add-one, none, holds) refl

pub first_not_here : (test : ℕ → Bool) (n : ℕ) → first_below test n ≡ None → test n ≡ false → first_below test (n + 1) ≡ None
first_not_here test n none fails = rw (add-one, none, fails) refl

-- the first place stays the first as more places are looked at
pub first_stays : (test : ℕ → Bool) (n m k : ℕ) → first_below test n ≡ Some k → n ≤ m → first_below test m ≡ Some k
first_stays test n zero k found below = let e : n ≡ 0 = omega arith in rw e at found
first_stays test n (suc m) k found below = elim (cases_eq n (suc m)) [
  | inl same ↦ rw same at found
  | inr other ↦ let e : first_below test m ≡ Some k = first_stays test n m k found (omega arith) in rw e refl
]

-- what a place that was found says
pub record IsFirst (test : ℕ → Bool) (n k : ℕ) : Type 0 where
  pub below : k < n
  pub holds : test k ≡ true
  pub before : (j : ℕ) → j < k → test j ≡ false

one_more : (o : Option ℕ) (b : Bool) (n k : ℕ) → or_else o (if b then Some n else None) ≡ Some k → (o ≡ Some k) ⊎ ((o ≡ None) × (b ≡ true) × (n ≡ k))
one_more (Some j) b n k h = inl h
one_more None true n k h = inr (refl, refl, cc)
one_more None false n k h = cc

none_more : (o : Option ℕ) (b : Bool) (n : ℕ) → or_else o (if b then Some n else None) ≡ None → (o ≡ None) × (b ≡ false)
none_more (Some j) b n h = cc
none_more None true n h = cc
none_more None false n h = (refl, refl)

pub none_below : (test : ℕ → Bool) (n : ℕ) → first_below test n ≡ None → (k : ℕ) → k < n → test k ≡ false
none_below test zero none k below = absurd (omega arith)
none_below test (suc n) none k below =
    let less = none_more (first_below test n) (test n) n none in
    elim (cases_eq k n) [
      | inl same ↦ ap test same ∙ less.1
      | inr other ↦ none_below test n less.0 k (omega arith)
    ]

pub is_first : (test : ℕ → Bool) (n k : ℕ) → first_below test n ≡ Some k → IsFirst test n k
is_first test zero k found = cc
is_first test (suc n) k found = elim (one_more (first_below test n) (test n) n k found) [
  | inl earlier ↦ let h : IsFirst test n k = is_first test n k earlier in record { below = omega (arith, h.below); holds = h.holds; before = h.before }
  | inr here ↦ record {
    below = omega (arith, here.2);
    holds = ap test (sym here.2) ∙ here.1;
    before = λ j below. none_below test n here.0 j (omega (arith, here.2));
  }
]

all_fail : (test : ℕ → Bool) (n : ℕ) → ((j : ℕ) → j < n → test j ≡ false) → first_below test n ≡ None
all_fail test zero h = refl
all_fail test (suc n) h =
    let less : first_below test n ≡ None = all_fail test n (λ j below. h j (omega arith)) in
    let fails : test n ≡ false = h n (omega arith) in
    rw (less, fails) refl

pub first_is : (test : ℕ → Bool) (n k : ℕ) → IsFirst test n k → first_below test n ≡ Some k
first_is test n k h = first_stays test (k + 1) n k (first_here test k (all_fail test k h.before) h.holds) (omega (arith, h.below))

-- whether a point stands among the bytes before a place, one place on
pub point_more : (text : List ℕ) (place : ℕ) → place < length text → list_any is_point (take (place + 1) text) ≡ (list_any is_point (take place text) || is_point (slice_index text place))
point_more text place below = list_any_more is_point text place 0 below

-- what the bytes of a good text are
not_bad : (digit point first last behind : Bool) → (not digit && (not point || first || last || behind)) ≡ false → (digit ≡ true) ⊎ ((point ≡ true) × (behind ≡ false))
not_bad true point first last behind h = inl refl
not_bad false false first last behind h = cc
not_bad false true true last behind h = cc
not_bad false true false true behind h = cc
not_bad false true false false true h = cc
not_bad false true false false false h = inr (refl, refl)

good_at : (text : List ℕ) → bad_place text ≡ None → (k : ℕ) → k < length text → (is_digit (slice_index text k) ≡ true) ⊎ ((is_point (slice_index text k) ≡ true) × (list_any is_point (take k text) ≡ false))
good_at text good k below =
    not_bad (is_digit (slice_index text k)) (is_point (slice_index text k)) (k == 0) (k + 1 == length text) (list_any is_point (take k text)) (none_below (is_bad_at text) (length text) good k below)

all_digits : (xs : List ℕ) → ((k : ℕ) → k < length xs → is_digit (get_or xs k 0) ≡ true) → list_all is_digit xs ≡ true
all_digits xs h = list_all-from_AllPass is_digit xs (All-from_get_or (λ x. is_digit x ≡ true) xs 0 h)

-- before the first point of a good text stand digits
pub front_digits : (text : List ℕ) → bad_place text ≡ None → (n : ℕ) → n ≤ length text → n ≤ position_or_len is_point text → list_all is_digit (take n text) ≡ true
front_digits text good n long before = all_digits (take n text) (λ k below.
    let short : k < n = omega (arith, length-take n text) in
    let no_point : is_point (slice_index text k) ≡ false = fails_before_first is_point text k 0 (omega arith) in
    rw (get_or-take n text k 0 short) (elim (good_at text good k (omega arith)) [ inl digit ↦ digit | inr point ↦ let p = point.0 in cc ]))

-- behind the first point of a good text stand digits
pub back_digits : (text : List ℕ) → bad_place text ≡ None → (p : ℕ) → p < length text → is_point (slice_index text p) ≡ true → list_all is_digit (drop (p + 1) text) ≡ true
back_digits text good p inside is = all_digits (drop (p + 1) text) (λ k below.
    let there : p + 1 + k < length text = omega (arith, length-drop (p + 1) text) in
    let within : p < length (take (p + 1 + k) text) = omega (arith, length-take (p + 1 + k) text) in
    let short : p < p + 1 + k = omega arith in
    let before : is_point (get_or (take (p + 1 + k) text) p 0) ≡ true = rw (get_or-take (p + 1 + k) text p 0 short) is in
    let point : list_any is_point (take (p + 1 + k) text) ≡ true = list_any_at is_point (take (p + 1 + k) text) p 0 within before in
    rw (get_or-drop (p + 1) text k 0) (elim (good_at text good (p + 1 + k) there) [ inl digit ↦ digit | inr none ↦ let n = none.1 in cc ]))

-- the byte that is told is the first bad one, and no other fault tells a byte
sized_names_none : (front back : List ℕ) (place : ℕ) → sized front back ≡ Err (BadByte place) → ⊥
sized_names_none front back place h = grind (arith, common_steps)

IsFirst-from_bad : (text : List ℕ) (place : ℕ) → IsFirst (is_bad_at text) (length text) place → IsFirstBad text place
IsFirst-from_bad text place h = record { inside = h.below; bad = h.holds; first = h.before }

bad-from_IsFirst : (text : List ℕ) (place : ℕ) → IsFirstBad text place → IsFirst (is_bad_at text) (length text) place
bad-from_IsFirst text place h = record { below = h.inside; holds = h.bad; before = h.first }

checked_tells : (text : List ℕ) (o : Option ℕ) (place : ℕ) → checked text o ≡ Err (BadByte place) → o ≡ Some place
checked_tells text (Some k) place h = cc
checked_tells text None place h = absurd (sized_names_none (before_first is_point text) (after_first is_point text) place h)

told : (text : List ℕ) (empty : Bool) (place : ℕ) → cond empty (Err Empty) (checked text (bad_place text)) ≡ Err (BadByte place) → bad_place text ≡ Some place
told text true place h = cc
told text false place h = checked_tells text (bad_place text) place h

pub bad_byte_is_first : (text : List ℕ) (place : ℕ) → vehicles text ≡ Err (BadByte place) → IsFirstBad text place
bad_byte_is_first text place h = IsFirst-from_bad text place (is_first (is_bad_at text) (length text) place (told text (length text == 0) place h))

pub first_bad_byte_is_told : (text : List ℕ) (place : ℕ) → IsFirstBad text place → vehicles text ≡ Err (BadByte place)
first_bad_byte_is_told text place h =
    let found : bad_place text ≡ Some place = first_is (is_bad_at text) (length text) place (bad-from_IsFirst text place h) in
    let some : (length text == 0) ≡ false = let inside : place < length text = h.inside in grind (arith, nat_tests) in
    rw (some, found) refl

pub ruleset steps = (first_here, first_not_here, first_stays, point_more)

no_place : (a b : ℕ) → cond (nat_lt a b) (Some a) None ≡ None → b ≤ a
no_place a b h = grind (arith, common_steps)

a_place : (a b i : ℕ) → cond (nat_lt a b) (Some a) None ≡ Some i → (a < b) × (i ≡ a)
a_place a b i h = (grind (arith, common_steps), grind (arith, common_steps))

-- a good text without a point is digits, and one with a point has digits on both sides
pub whole_text : (text : List ℕ) → bad_place text ≡ None → position is_point text ≡ None → list_all is_digit text ≡ true
whole_text text good none =
    let far : length text ≤ position_or_len is_point text = no_place _ _ none in
    rw (take-length text) at (front_digits text good (length text) (omega arith) far)

pub front_part : (text : List ℕ) (p : ℕ) → bad_place text ≡ None → position is_point text ≡ Some p → list_all is_digit (take p text) ≡ true
front_part text p good at =
    let there = a_place (position_or_len is_point text) (length text) p at in
    front_digits text good p (omega arith) (omega arith)

pub back_part : (text : List ℕ) (p : ℕ) → bad_place text ≡ None → position is_point text ≡ Some p → list_all is_digit (take (length text - (p + 1)) (drop (p + 1) text)) ≡ true
back_part text p good at =
    let there = a_place (position_or_len is_point text) (length text) p at in
    let point : is_point (slice_index text p) ≡ true = ap (λ q. is_point (slice_index text q)) there.1 ∙ passes_at_first is_point text 0 there.0 in
    let short : length (drop (p + 1) text) ≤ length text - (p + 1) = omega (arith, length-drop (p + 1) text) in
    rw (take_all (length text - (p + 1)) (drop (p + 1) text) short) (back_digits text good p (omega arith) point)

pub ruleset parts = (whole_text, front_part, back_part)
