-- A part of a list is written over, and a row of the table.
use Rattle.std.proofs.Common.{◌≡◌, ◌≢◌, ℕ, ◌+◌, ◌-◌, ◌*◌, ◌^◌, ◌<◌, ◌≤◌, ◌⊎◌, ◌++◌, List, take, drop, get_or, length, slice_index, arith, inl, inr, ap, sym, ◌∙◌}
use Rattle.std.proofs.Math.Nat.{mul-le-mul_right}
use Rattle.std.proofs.lemmas.Bool.{cases_lt}
use Rattle.std.proofs.lemmas.Nat.{same_from_place}
use Rattle.std.proofs.lemmas.List.{with_items_is, get_or_append_left, get_or-append_right, get_or-take, get_or-drop, length-take-le, length-append, length-drop}
use Rattle.std.specs.Vec.{with_items}
use Rattle.ltm_curve.specs.declared.curves.Curves.{Curves}
use Rattle.ltm_curve.specs.Table.{place, counts_of, SameShape, SetsRow}
use Rattle.ltm_curve.proofs.Places.{same_place}

-- a list with other numbers in the place of those from the a-th up to the e-th
abbrev pub put_over : (a e : ℕ) → List ℕ → List ℕ → List ℕ
put_over a e xs ys = take a xs ++ (ys ++ drop (e - a) (drop a xs))

pub length_over : (a e : ℕ) (xs ys : List ℕ) → a ≤ e → e ≤ length xs → length ys ≡ e - a → length (put_over a e xs ys) ≡ length xs
length_over a e xs ys l m same =
    omega (arith, length-append (take a xs) (ys ++ drop (e - a) (drop a xs)), length-append ys (drop (e - a) (drop a xs)), length-take-le a xs (omega arith), length-drop (e - a) (drop a xs), length-drop a xs)

pub before_over : (a e : ℕ) (xs ys : List ℕ) (i : ℕ) → a ≤ e → e ≤ length xs → i < a → slice_index (put_over a e xs ys) i ≡ slice_index xs i
before_over a e xs ys i l m b =
    get_or_append_left (take a xs) (ys ++ drop (e - a) (drop a xs)) 0 i (omega (arith, length-take-le a xs (omega arith))) ∙ get_or-take a xs i 0 b

pub in_over : (a e : ℕ) (xs ys : List ℕ) (i : ℕ) → a ≤ e → e ≤ length xs → i < length ys → slice_index (put_over a e xs ys) (a + i) ≡ slice_index ys i
in_over a e xs ys i l m b =
    let n : a + i - a ≡ i = omega arith in
    get_or-append_right (take a xs) (ys ++ drop (e - a) (drop a xs)) a (a + i) 0 (length-take-le a xs (omega arith)) (omega arith)
    ∙ (ap (λ (z : ℕ). get_or (ys ++ drop (e - a) (drop a xs)) z 0) n ∙ get_or_append_left ys (drop (e - a) (drop a xs)) 0 i b)

pub after_over : (a e : ℕ) (xs ys : List ℕ) (i : ℕ) → a ≤ e → e ≤ length xs → length ys ≡ e - a → e ≤ i → slice_index (put_over a e xs ys) i ≡ slice_index xs i
after_over a e xs ys i l m same b =
    let n : a + (e - a + (i - a - (e - a))) ≡ i = omega arith in
    get_or-append_right (take a xs) (ys ++ drop (e - a) (drop a xs)) a i 0 (length-take-le a xs (omega arith)) (omega arith)
    ∙ (get_or-append_right ys (drop (e - a) (drop a xs)) (e - a) (i - a) 0 same (omega arith)
    ∙ (get_or-drop (e - a) (drop a xs) (i - a - (e - a)) 0 ∙ (get_or-drop a xs (e - a + (i - a - (e - a))) 0 ∙ ap (λ (z : ℕ). get_or xs z 0) n)))

-- numbers that are small stay small
pub small_over : (a e : ℕ) (xs ys : List ℕ) (most : ℕ) → a ≤ e → e ≤ length xs → length ys ≡ e - a → ((i : ℕ) → slice_index xs i < most) → ((d : ℕ) → d < length ys → slice_index ys d < most) →
    (i : ℕ) → slice_index (put_over a e xs ys) i < most
small_over a e xs ys most l m same all new i =
    elim (cases_lt i a) [
      | inl before ↦ omega (arith, before_over a e xs ys i l m before, all i)
      | inr from ↦ elim (cases_lt i e) [
        | inl here ↦
            let n : a + (i - a) ≡ i = omega arith in
            omega (arith, ap (slice_index (put_over a e xs ys)) n, in_over a e xs ys (i - a) l m (omega arith), new (i - a) (omega arith))
        | inr after ↦ omega (arith, after_over a e xs ys i l m same after, all i)
      ]
    ]

-- a place outside of a row
pub outside : (r r2 d w : ℕ) → r2 ≢ r → d < w → (r2 * w + d < r * w) ⊎ (r * w + w ≤ r2 * w + d)
outside r r2 d w differs l =
    elim (cases_lt r2 r) [
      | inl less ↦ inl (omega (arith, mul-le-mul_right w less))
      | inr not_less ↦ inr (let more : r + 1 ≤ r2 = omega arith in omega (arith, mul-le-mul_right w more))
    ]

pub sets_row_holds : (old new : Curves) (g k from : ℕ) (counts : List ℕ) → g < old.groups → length counts ≡ old.destinations → SameShape new old → from ≡ place old g 0 k → from + old.destinations ≤ length old.counts.items →
    new.counts.items ≡ put_over from (from + old.destinations) old.counts.items counts → SetsRow old new g k counts
unfolding counts_of
sets_row_holds old new g k from counts group long s start within put =
    let e : ℕ = from + old.destinations in
    let same : length counts ≡ e - from = omega arith in
    record {
      shape = s;
      here = λ d l.
          let at : place old g d k ≡ from + d = omega arith in
          ap (λ (z : ℕ). slice_index new.counts.items z) (same_place new old g d k s ∙ at)
          ∙ (ap (λ (xs : List ℕ). slice_index xs (from + d)) put ∙ in_over from e old.counts.items counts d (omega arith) within (omega arith));
      others = λ g2 d2 k2 h differs.
          let apart : k2 * old.groups + g2 ≢ k * old.groups + g = λ x.
          let two = same_from_place k2 g2 k g old.groups h.is_group group x in elim differs [ inl a ↦ a two.1 | inr c ↦ c two.0 ] in
          let kept : slice_index (put_over from e old.counts.items counts) (place old g2 d2 k2) ≡ slice_index old.counts.items (place old g2 d2 k2) =
          elim (outside (k * old.groups + g) (k2 * old.groups + g2) d2 old.destinations apart h.is_destination) [
            | inl before ↦ before_over from e old.counts.items counts (place old g2 d2 k2) (omega arith) within (omega arith)
            | inr after ↦ after_over from e old.counts.items counts (place old g2 d2 k2) (omega arith) within same (omega arith)
          ] in
          ap (λ (z : ℕ). slice_index new.counts.items z) (same_place new old g2 d2 k2 s) ∙ (ap (λ (xs : List ℕ). slice_index xs (place old g2 d2 k2)) put ∙ kept);
    }

-- what a table of counts is once a row of it is written over
pub record IsRowWritten (c : Curves) (from : ℕ) (row items : List ℕ) : Type 0 where
  pub put : items ≡ put_over from (from + c.destinations) c.counts.items row
  pub long : length items ≡ (c.slots + 1) * c.groups * c.destinations
  pub small : (i : ℕ) → slice_index items i < 2 ^ 31

-- it is written in a part of the table that is lent
pub row_written : (c : Curves) (from : ℕ) (lent written row : List ℕ) → lent ≡ c.counts.items → length lent ≡ c.counts.len → written ≡ row → from + c.destinations ≤ length c.counts.items → length row ≡ c.destinations →
    ((d : ℕ) → d < length row → slice_index row d < 2 ^ 31) → IsRowWritten c from row (with_items c.counts (put_over from (from + c.destinations) lent written)).items
row_written c from lent written row whole len same within many small =
    let to : ℕ = from + c.destinations in
    let items : List ℕ = c.counts.items in
    let put : put_over from to lent written ≡ put_over from to items row = ap (λ (xs : List ℕ). put_over from to xs written) whole ∙ ap (put_over from to items) same in
    let long : length (put_over from to items row) ≡ length items = length_over from to items row (omega arith) within (omega arith) in
    let all = with_items_is c.counts (put_over from to lent written) (ap length put ∙ (long ∙ (ap length (sym whole) ∙ len))) ∙ put in
    record {
      put = all;
      long = ap length all ∙ (long ∙ c.long);
      small = λ i. omega (arith, ap (λ (xs : List ℕ). slice_index xs i) all, small_over from to items row (2 ^ 31) (omega arith) within (omega arith) c.small small i);
    }
