-- The first units of a group.
use Rattle.std.proofs.Common.{◌≡◌, ℕ, suc, ◌+◌, ◌-◌, ◌*◌, ◌/◌, ◌<◌, ◌≤◌, List, [], ◌∷◌, length, sum, slice_index, cond, ◌==◌, ◌||◌, arith, inl, inr, refl, ap, sym, ◌∙◌, subst}
use Rattle.std.proofs.lemmas.Bool.{cases_lt, cases_eq}
use Rattle.std.proofs.lemmas.Bool.Decides.{nat_tests}
use Rattle.ltm_units.specs.Sums.{sum_below}
use Rattle.ltm_units.specs.Nested.{nested_split}
use Rattle.ltm_units.proofs.Sums.{sum_below-same, sum_below-plus}
use Rattle.ltm_units.proofs.Splits.{shares_rise_holds, whole_splits_holds, sum-nested_split}
use Rattle.ltm_curve.specs.Counts.{total}
use Rattle.ltm_curve.specs.First.{last_within, entries, mixed, first_units, RowsRise}
use Rattle.ltm_curve.specs.FirstLaws.{IsPart, FirstSums, FirstRises, FirstStays, FirstWithin}
use Rattle.ltm_curve.proofs.Lists.{sum-list_below, length-list_below, index-list_below, sum_below-list, nothing_splits, sum_below-minus}
use Rattle.ltm_curve.proofs.Lasts.{IsLast, is_last, one_last, total_rises, row_le, same_rows}

-- the boundary at which n units end
abbrev pub end_of : ℕ → (ℕ → ℕ → ℕ) → ℕ → ℕ → ℕ
end_of m rows n last = last_within (total m rows) n last

abbrev pub rest_of : ℕ → (ℕ → ℕ → ℕ) → ℕ → ℕ → ℕ
rest_of m rows n last = n - total m rows (end_of m rows n last)

pub end_is_last : (m : ℕ) (rows : ℕ → ℕ → ℕ) (n last : ℕ) → IsPart m rows n last → IsLast (total m rows) n last (end_of m rows n last)
end_is_last m rows n last h = is_last (total m rows) n last (omega (arith, h.empty))

either : (part k last a m : ℕ) → (part ≡ 0 → m ≡ a) → (k ≡ last → part ≡ 0) → cond ((part == 0) || (k == last)) a m ≡ m
either part k last a m first second = grind (arith, nat_tests)

pub mixed-zero : (m : ℕ) (rows : ℕ → ℕ → ℕ) (k d : ℕ) → mixed m rows k 0 d ≡ rows d k
mixed-zero m rows k d = omega (arith, nothing_splits (entries m rows k) d)

pub first_is_mixed : (m : ℕ) (rows : ℕ → ℕ → ℕ) (n last : ℕ) → IsPart m rows n last → (d : ℕ) →
    first_units m rows n last d ≡ mixed m rows (end_of m rows n last) (rest_of m rows n last) d
first_is_mixed m rows n last h d =
    let r : IsLast (total m rows) n last (end_of m rows n last) = end_is_last m rows n last h in
    let at_end : end_of m rows n last ≡ last → rest_of m rows n last ≡ 0 = λ e. let f : total m rows (end_of m rows n last) ≡ total m rows last = ap (total m rows) e in omega (arith, h.within) in
    let none : rest_of m rows n last ≡ 0 → mixed m rows (end_of m rows n last) (rest_of m rows n last) d ≡ rows d (end_of m rows n last) =
    λ e. ap (λ (z : ℕ). mixed m rows (end_of m rows n last) z d) e ∙ mixed-zero m rows (end_of m rows n last) d in
    either (rest_of m rows n last) (end_of m rows n last) last (rows d (end_of m rows n last)) (mixed m rows (end_of m rows n last) (rest_of m rows n last) d) none at_end

pub sum-entries : (m : ℕ) (rows : ℕ → ℕ → ℕ) (k : ℕ) → ((d : ℕ) → d < m → rows d k ≤ rows d (k + 1)) → sum (entries m rows k) + total m rows k ≡ total m rows (k + 1)
sum-entries m rows k h = omega (arith, sum-list_below m (λ d. rows d (k + 1) - rows d k), sum_below-minus m (λ d. rows d k) (λ d. rows d (k + 1)) h)

-- a part of the entries of a slot is at most the count at its end
pub mixed_next : (m : ℕ) (rows : ℕ → ℕ → ℕ) (k part d : ℕ) → d < m → rows d k ≤ rows d (k + 1) → part ≤ sum (entries m rows k) → mixed m rows k part d ≤ rows d (k + 1)
mixed_next m rows k part d l rise within =
    let xs : List ℕ = entries m rows k in
    let up : slice_index (nested_split part (entries m rows k)) d ≤ slice_index (nested_split (sum (entries m rows k)) (entries m rows k)) d = shares_rise_holds (entries m rows k) part (sum (entries m rows k)) within d in
    let all : slice_index (nested_split (sum (entries m rows k)) (entries m rows k)) d ≡ slice_index (entries m rows k) d = ap (λ (ys : List ℕ). slice_index ys d) (whole_splits_holds (entries m rows k)) in
    let one : slice_index (entries m rows k) d ≡ rows d (k + 1) - rows d k = index-list_below m (λ e. rows e (k + 1) - rows e k) d l in omega arith

pub mixed_rises : (m : ℕ) (rows : ℕ → ℕ → ℕ) (k less part d : ℕ) → less ≤ part → mixed m rows k less d ≤ mixed m rows k part d
mixed_rises m rows k less part d h = omega (arith, shares_rise_holds (entries m rows k) less part h d)

-- what does not reach the last boundary ends within the entries of a slot
pub rest_within : (m : ℕ) (rows : ℕ → ℕ → ℕ) (n last k : ℕ) → IsPart m rows n last → IsLast (total m rows) n last k → k < last → n - total m rows k < sum (entries m rows k)
rest_within m rows n last k h r l =
    omega (arith, r.within, r.above (k + 1) (omega arith) (omega arith), sum-entries m rows k (λ d x. h.rise d k x l))

length-nested_split : (xs : List ℕ) (m : ℕ) → length (nested_split m xs) ≡ length xs
length-nested_split [] m = refl
length-nested_split (x ∷ xs) m = ap suc (length-nested_split xs (m - m * x / (x + sum xs)))

-- the parts at an end
mixed_sums : (m : ℕ) (rows : ℕ → ℕ → ℕ) (k part : ℕ) → (sum (entries m rows k) ≡ 0 → part ≡ 0) → sum_below m (mixed m rows k part) ≡ total m rows k + part
mixed_sums m rows k part h =
    let shares : List ℕ = nested_split part (entries m rows k) in
    let long : length (nested_split part (entries m rows k)) ≡ m = length-nested_split (entries m rows k) part ∙ length-list_below m (λ e. rows e (k + 1) - rows e k) in
    let all : sum_below (length (nested_split part (entries m rows k))) (slice_index (nested_split part (entries m rows k))) ≡ sum (nested_split part (entries m rows k)) = sum_below-list (nested_split part (entries m rows k)) in
    let count : sum_below (length (nested_split part (entries m rows k))) (slice_index (nested_split part (entries m rows k))) ≡ sum_below m (slice_index (nested_split part (entries m rows k))) =
    ap (λ (z : ℕ). sum_below z (slice_index (nested_split part (entries m rows k)))) long in
    omega (arith, sum-nested_split (entries m rows k) part h, sum_below-plus m (λ d. rows d k) (slice_index (nested_split part (entries m rows k))))

pub first_sums_holds : FirstSums
first_sums_holds m rows n last h =
    let k : ℕ = end_of m rows n last in
    let r : IsLast (total m rows) n last (end_of m rows n last) = end_is_last m rows n last h in
    let some : sum (entries m rows (end_of m rows n last)) ≡ 0 → rest_of m rows n last ≡ 0 = λ none. elim (cases_lt (end_of m rows n last) last) [
      | inl low ↦ omega (arith, rest_within m rows n last (end_of m rows n last) h r low)
      | inr high ↦ let at : end_of m rows n last ≡ last = omega (arith, r.below) in let e : total m rows (end_of m rows n last) ≡ total m rows last = ap (total m rows) at in omega (arith, h.within)
    ] in
    let sums : sum_below m (mixed m rows (end_of m rows n last) (rest_of m rows n last)) ≡ total m rows (end_of m rows n last) + rest_of m rows n last = mixed_sums m rows (end_of m rows n last) (rest_of m rows n last) some in
    let same : sum_below m (first_units m rows n last) ≡ sum_below m (mixed m rows (end_of m rows n last) (rest_of m rows n last)) =
    sum_below-same m (first_units m rows n last) (mixed m rows (end_of m rows n last) (rest_of m rows n last)) (λ d l. first_is_mixed m rows n last h d) in
    omega (arith, r.within)

rises_at : (m : ℕ) (rows : ℕ → ℕ → ℕ) (less n last j k : ℕ) → IsPart m rows n last → less ≤ n → IsLast (total m rows) less last j → IsLast (total m rows) n last k →
    (d : ℕ) → d < m → mixed m rows j (less - total m rows j) d ≤ mixed m rows k (n - total m rows k) d
rises_at m rows less n last j k h small a b d l =
    elim (cases_lt j k) [
      | inl low ↦
          let part : IsPart m rows less last = record { rise = h.rise; empty = h.empty; within = omega (arith, h.within) } in
          let below : j < last = omega (arith, b.below) in
          let next : mixed m rows j (less - total m rows j) d ≤ rows d (j + 1) =
          mixed_next m rows j (less - total m rows j) d l (h.rise d j l below) (omega (arith, rest_within m rows less last j part a below)) in
          omega (arith, row_le m rows last h.rise d (j + 1) k l (omega arith) b.below)
      | inr high ↦ elim (cases_lt k j) [
        | inl above ↦ absurd (omega (arith, b.above j above a.below, a.within))
        | inr same ↦
            let e : k ≡ j = omega arith in
            subst (λ (z : ℕ). mixed m rows z (less - total m rows z) d ≤ mixed m rows k (n - total m rows k) d) e (mixed_rises m rows k (less - total m rows k) (n - total m rows k) d (omega arith))
      ]
    ]

pub first_rises_holds : FirstRises
first_rises_holds m rows less n last h small d l =
    let part : IsPart m rows less last = record { rise = h.rise; empty = h.empty; within = omega (arith, h.within) } in
    omega (
      arith,
      first_is_mixed m rows less last part d,
      first_is_mixed m rows n last h d,
      rises_at m rows less n last (end_of m rows less last) (end_of m rows n last) h small (end_is_last m rows less last part) (end_is_last m rows n last h) d l,
    )

-- all units by a boundary are its counts
pub first_all : (m : ℕ) (rows : ℕ → ℕ → ℕ) (last : ℕ) → RowsRise m rows last → total m rows 0 ≡ 0 → (d : ℕ) → first_units m rows (total m rows last) last d ≡ rows d last
first_all m rows last rise empty d =
    let c : ℕ → ℕ = total m rows in
    let h : IsPart m rows (total m rows last) last = record { rise = rise; empty = empty; within = omega arith } in
    let here : IsLast (total m rows) (total m rows last) last last = record { below = omega arith; within = omega arith; above = λ j l x. absurd (omega arith) } in
    let e : end_of m rows (total m rows last) last ≡ last = one_last (total m rows) (total m rows last) last (end_of m rows (total m rows last) last) last (end_is_last m rows (total m rows last) last h) here in
    let f : mixed m rows (end_of m rows (total m rows last) last) (total m rows last - total m rows (end_of m rows (total m rows last) last)) d ≡ mixed m rows last (total m rows last - total m rows last) d =
    ap (λ (z : ℕ). mixed m rows z (total m rows last - total m rows z) d) e in
    let z : total m rows last - total m rows last ≡ 0 = omega arith in
    let g : mixed m rows last (total m rows last - total m rows last) d ≡ mixed m rows last 0 d = ap (λ (y : ℕ). mixed m rows last y d) z in
    first_is_mixed m rows (total m rows last) last h d ∙ (f ∙ (g ∙ mixed-zero m rows last d))

pub first_within_holds : FirstWithin
first_within_holds m rows n last h d l =
    let whole : IsPart m rows (total m rows last) last = record { rise = h.rise; empty = h.empty; within = omega arith } in
    omega (arith, first_rises_holds m rows n (total m rows last) last whole h.within d l, first_all m rows last h.rise h.empty d)

pub first_stays_holds : FirstStays
first_stays_holds m rows n last h rise d l =
    let more : IsPart m rows n (last + 1) = record { rise = rise; empty = h.empty; within = omega (arith, total_rises m rows (last + 1) rise last (omega arith), h.within) } in
    let a : IsLast (total m rows) n last (end_of m rows n last) = end_is_last m rows n last h in
    let b : IsLast (total m rows) n (last + 1) (end_of m rows n (last + 1)) = end_is_last m rows n (last + 1) more in
    elim (cases_lt n (total m rows (last + 1))) [
      | inl passed ↦
          let same : IsLast (total m rows) n (last + 1) (end_of m rows n last) = record {
            below = omega (arith, a.below);
            within = a.within;
            above = λ j x y. elim (cases_eq j (last + 1)) [
              | inl at ↦ let f : total m rows j ≡ total m rows (last + 1) = ap (total m rows) at in omega arith
              | inr other ↦ a.above j x (omega arith)
            ];
          } in
          let e : end_of m rows n (last + 1) ≡ end_of m rows n last = one_last (total m rows) n (last + 1) (end_of m rows n (last + 1)) (end_of m rows n last) b same in
          first_is_mixed m rows n (last + 1) more d ∙ (ap (λ (z : ℕ). mixed m rows z (n - total m rows z) d) e ∙ sym (first_is_mixed m rows n last h d))
      | inr reached ↦
          let e : n ≡ total m rows (last + 1) = omega (arith, more.within) in
          let f : n ≡ total m rows last = omega (arith, h.within, total_rises m rows (last + 1) rise last (omega arith)) in
          let top : rows d last ≡ rows d (last + 1) = same_rows m rows last (last + 1) (λ i x. rise i last x (omega arith)) (omega arith) d l in
          let first : first_units m rows n (last + 1) d ≡ rows d (last + 1) = ap (λ (z : ℕ). first_units m rows z (last + 1) d) e ∙ first_all m rows (last + 1) rise h.empty d in
          let second : first_units m rows n last d ≡ rows d last = ap (λ (z : ℕ). first_units m rows z last d) f ∙ first_all m rows last h.rise h.empty d in omega arith
    ]

pub part_inside : (m : ℕ) (rows : ℕ → ℕ → ℕ) (n last k : ℕ) → IsPart m rows n last → k ≡ last_within (total m rows) n last → 0 < n - total m rows k → n - total m rows k < sum (entries m rows k)
part_inside m rows n last k h e some =
    let r : IsLast (total m rows) n last k = subst (λ (z : ℕ). IsLast (total m rows) n last z) (sym e) (end_is_last m rows n last h) in
    elim (cases_lt k last) [
      | inl low ↦ rest_within m rows n last k h r low
      | inr high ↦ let at : k ≡ last = omega (arith, r.below) in let f : total m rows k ≡ total m rows last = ap (total m rows) at in absurd (omega (arith, h.within))
    ]

-- with one destination all units are its own
pub only_one : (m : ℕ) (rows : ℕ → ℕ → ℕ) (n last : ℕ) → IsPart m rows n last → m ≡ 1 → (d : ℕ) → d < m → n ≡ first_units m rows n last d
only_one m rows n last h e d l =
    let sums : sum_below m (first_units m rows n last) ≡ n = first_sums_holds m rows n last h in
    let one : sum_below m (first_units m rows n last) ≡ sum_below 1 (first_units m rows n last) = ap (λ (z : ℕ). sum_below z (first_units m rows n last)) e in
    let at : d ≡ 0 = omega arith in
    let here : first_units m rows n last d ≡ first_units m rows n last 0 = ap (first_units m rows n last) at in omega arith

-- the last boundary with at most so many units has at most so many
pub end_within : (m : ℕ) (rows : ℕ → ℕ → ℕ) (n last k : ℕ) → IsPart m rows n last → k ≡ last_within (total m rows) n last → total m rows k ≤ n
end_within m rows n last k h e = omega (arith, (end_is_last m rows n last h).within, ap (total m rows) e)

-- and is not above the last one that is looked at
pub end_below : (m : ℕ) (rows : ℕ → ℕ → ℕ) (n last k : ℕ) → IsPart m rows n last → k ≡ last_within (total m rows) n last → k ≤ last
end_below m rows n last k h e = omega (arith, (end_is_last m rows n last h).below, e)
