-- What may leave a link next.
use Rattle.std.proofs.Common.{◌≡◌, ℕ, zero, suc, ◌+◌, ◌-◌, ◌*◌, ◌%◌, ◌^◌, ◌<◌, ◌≤◌, List, [], take, drop, sum, length, slice_index, arith, refl, sym, ap, ◌∙◌, inl, inr}
use Rattle.std.proofs.Math.Nat.{mul-le-mul_right}
use Rattle.std.proofs.lemmas.Bool.{cases_lt}
use Rattle.std.proofs.lemmas.List.{length-drop, length-take-le, drop_all}
use Rattle.ltm_units.specs.Sums.{sum_below}
use Rattle.ltm_units.specs.Nested.{nested_split}
use Rattle.ltm_units.proofs.Sums.{sum_below-same, sum_below-plus}
use Rattle.ltm_curve.specs.Counts.{total}
use Rattle.ltm_curve.specs.First.{last_within, first_units, mixed, entries}
use Rattle.ltm_curve.specs.FirstLaws.{IsPart}
use Rattle.ltm_curve.proofs.Lists.{part_at, list_from, sum_below-list, nothing_splits}
use Rattle.ltm_curve.proofs.Lasts.{IsLast, one_last, above_from}
use Rattle.ltm_curve.proofs.Firsts.{first_is_mixed, end_is_last}
use Rattle.ltm_standing.specs.declared.standing.Standing.{Standing}
use Rattle.ltm_standing.specs.Standing.{width_of, end_of, row_at, total_at, row_of, StandsAt, IsReached}
use Rattle.ltm_standing.proofs.Modulo.{difference_is}
use Rattle.ltm_standing.proofs.Moves.{row_total}

take_none : (n : ℕ) → take {A = ℕ} n [] ≡ []
take_none zero = refl
take_none (suc n) = refl

-- a row as a list
pub length-row : (s : Standing) (j : ℕ) → j < end_of s → length (row_of s j) ≡ width_of s
length-row s j l =
    let w : ℕ = width_of s in
    let whole : length s.entries.items ≡ end_of s * width_of s = s.whole in
    let le : (j + 1) * width_of s ≤ end_of s * width_of s = mul-le-mul_right (width_of s) (omega arith) in
    let rest : length (drop (j * width_of s) s.entries.items) ≡ length s.entries.items - j * width_of s = length-drop (j * width_of s) s.entries.items in
    let wide : j * width_of s + width_of s - j * width_of s ≡ width_of s = omega arith in
    length-take-le (j * width_of s + width_of s - j * width_of s) (drop (j * width_of s) s.entries.items) (omega (arith, whole, le, rest)) ∙ wide

pub index-row : (s : Standing) (j i : ℕ) → i < width_of s → slice_index (row_of s j) i ≡ row_at s j i
index-row s j i m = part_at s.entries.items (j * width_of s) (width_of s) i m

pub row_sum : (s : Standing) (j : ℕ) → j < end_of s → total_at s j ≡ sum (row_of s j)
row_sum s j l =
    row_total s j l
    ∙ (sum_below-same (width_of s) (row_at s j) (slice_index (row_of s j)) (λ i m. sym (index-row s j i m))
    ∙ (ap (λ (n : ℕ). sum_below n (slice_index (row_of s j))) (sym (length-row s j l)) ∙ sum_below-list (row_of s j)))

-- behind the last row there is none
pub no_row : (s : Standing) (j : ℕ) → end_of s ≤ j → row_of s j ≡ []
no_row s j l =
    let whole : length s.entries.items ≡ end_of s * width_of s = s.whole in
    let le : end_of s * width_of s ≤ j * width_of s = mul-le-mul_right (width_of s) l in
    let wide : j * width_of s + width_of s - j * width_of s ≡ width_of s = omega arith in
    let none : drop (j * width_of s) s.entries.items ≡ [] = drop_all (j * width_of s) s.entries.items (omega (arith, whole, le)) in
    ap (take (j * width_of s + width_of s - j * width_of s)) none ∙ take_none (j * width_of s + width_of s - j * width_of s)

-- rows begin before the end
begins_by : (w : ℕ) (up down : ℕ → ℕ → ℕ) (k t : ℕ) (s : Standing) (h : StandsAt w up down k t s) (n j : ℕ) → s.dead ≤ j → j + n ≡ end_of s → h.begins j ≤ k
begins_by w up down k t s h zero j a e = let f : j ≡ end_of s = omega arith in omega (arith, ap h.begins f, h.end)
begins_by w up down k t s h (suc n) j a e = omega (arith, h.later j a (omega arith), begins_by w up down k t s h n (j + 1) (omega arith) (omega arith))

-- no more has entered by the position than may leave
pub base_within : (w : ℕ) (up down : ℕ → ℕ → ℕ) (k t goal : ℕ) (s : Standing) → StandsAt w up down k t s → IsReached goal s → total w down t ≤ goal → s.base ≤ goal
base_within w up down k t goal s h r gone =
    let order : s.dead ≤ s.next = s.order in
    elim (cases_lt s.dead s.next) [
      | inl some ↦ r.before some
      | inr none ↦ let e : s.next ≡ s.dead = omega arith in omega (arith, h.base, ap (λ (z : ℕ). total w up (h.begins z)) e, h.low, h.freed)
    ]

-- where the position is, what may leave is what entered by it and of the row behind it the nested split
at_position : (w : ℕ) (up : ℕ → ℕ → ℕ) (t goal p : ℕ) (row : List ℕ) → IsPart w up goal t → IsLast (total w up) goal t p → entries w up p ≡ row → (i : ℕ) →
    first_units w up goal t i ≡ up i p + slice_index (nested_split (goal - total w up p) row) i
at_position w up t goal p row part last e i =
    let same : last_within (total w up) goal t ≡ p = one_last (total w up) goal t (last_within (total w up) goal t) p (end_is_last w up goal t part) last in
    first_is_mixed w up goal t part i
    ∙ (ap (λ (z : ℕ). mixed w up z (goal - total w up z) i) same ∙ ap (λ (xs : List ℕ). up i p + slice_index (nested_split (goal - total w up p) xs) i) e)

pub first_stands : (w : ℕ) (up down : ℕ → ℕ → ℕ) (t goal : ℕ) (s : Standing) (h : StandsAt w up down t t s) → IsPart w up goal t → IsReached goal s → total w down t ≤ goal → (i : ℕ) → i < w →
    first_units w up goal t i ≡ up i (h.begins s.next) + slice_index (nested_split (goal - s.base) (row_of s s.next)) i
first_stands w up down t goal s h part r gone i m =
    let order : s.dead ≤ s.next = s.order in
    let within : s.next ≤ end_of s = s.within in
    let low : s.base ≤ goal = base_within w up down t t goal s h r gone in
    let p : ℕ = h.begins s.next in
    let base : goal - total w up (h.begins s.next) ≡ goal - s.base = ap (λ (z : ℕ). goal - z) (sym h.base) in
    elim (cases_lt s.next (end_of s)) [
      | inl some ↦
          let early : h.begins (s.next + 1) ≤ t = begins_by w up down t t s h (end_of s - (s.next + 1)) (s.next + 1) (omega arith) (omega arith) in
          let later : h.begins s.next < h.begins (s.next + 1) = h.later s.next order some in
          let each : sum_below w (λ j. up j (h.begins s.next + 1)) ≡ sum_below w (λ j. up j (h.begins s.next) + row_at s s.next j) =
          sum_below-same w (λ j. up j (h.begins s.next + 1)) (λ j. up j (h.begins s.next) + row_at s s.next j) (λ j l. h.rows s.next j order some l) in
          let plus = sum_below-plus w (λ j. up j (h.begins s.next)) (row_at s s.next) in
          let wide : sum_below (width_of s) (row_at s s.next) ≡ sum_below w (row_at s s.next) = ap (λ (n : ℕ). sum_below n (row_at s s.next)) h.wide in
          let over : goal < total w up (h.begins s.next + 1) = omega (arith, r.behind some, h.base, each, plus, wide, row_total s s.next some) in
          let last : IsLast (total w up) goal t (h.begins s.next) =
          record { below = omega arith; within = omega (arith, h.base, low); above = λ j a b. above_from w up t goal (h.begins s.next + 1) part.rise over j (omega arith) b } in
          let row : entries w up (h.begins s.next) ≡ row_of s s.next =
          sym (list_from w (λ j. up j (h.begins s.next + 1) - up j (h.begins s.next)) (row_of s s.next) (length-row s s.next some ∙ h.wide)
          (λ j l. index-row s s.next j (omega (arith, l, h.wide)) ∙ omega (arith, h.rows s.next j order some l))) in
          at_position w up t goal (h.begins s.next) (row_of s s.next) part last row i ∙ ap (λ (z : ℕ). up i (h.begins s.next) + slice_index (nested_split z (row_of s s.next)) i) base
      | inr none ↦
          let at : h.begins s.next ≡ t = (let e : s.next ≡ end_of s = omega arith in ap h.begins e ∙ h.end) in
          let whole : total w up (h.begins s.next) ≡ total w up t = ap (total w up) at in
          let last : IsLast (total w up) goal t (h.begins s.next) = record { below = omega (arith, at); within = omega (arith, h.base, low); above = λ j a b. absurd (omega (arith, at, a, b)) } in
          let nothing : goal - total w up (h.begins s.next) ≡ 0 = omega (arith, whole, part.within) in
          let zero_left : slice_index (nested_split (goal - total w up (h.begins s.next)) (entries w up (h.begins s.next))) i ≡ 0 =
          ap (λ (z : ℕ). slice_index (nested_split z (entries w up (h.begins s.next))) i) nothing ∙ nothing_splits (entries w up (h.begins s.next)) i in
          let zero_right : slice_index (nested_split (goal - s.base) (row_of s s.next)) i ≡ 0 =
          ap (λ (z : ℕ). slice_index (nested_split z (row_of s s.next)) i) (sym base ∙ nothing) ∙ nothing_splits (row_of s s.next) i in
          at_position w up t goal (h.begins s.next) (entries w up (h.begins s.next)) part last refl i ∙ omega (arith, zero_left, zero_right)
    ]

pub sends_first : (w : ℕ) (up down : ℕ → ℕ → ℕ) (t goal : ℕ) (s : Standing) (h : StandsAt w up down t t s) → IsPart w up goal t → IsReached goal s → total w down t ≤ goal → (i : ℕ) → i < w
    → down i t ≤ first_units w up goal t i → first_units w up goal t i < down i t + 2 ^ 32
    → (slice_index s.rest.items i + slice_index (nested_split (goal - s.base) (row_of s s.next)) i) % 2 ^ 32 ≡ first_units w up goal t i - down i t
sends_first w up down t goal s h part r gone i m behind small =
    let first = first_stands w up down t goal s h part r gone i m in
    difference_is (slice_index s.rest.items i) (up i (h.begins s.next)) (down i t) (slice_index (nested_split (goal - s.base) (row_of s s.next)) i) (h.rest i m) (omega (arith, first, behind)) (omega (arith, first, small))
    ∙ ap (λ (z : ℕ). z - down i t) (sym first)
