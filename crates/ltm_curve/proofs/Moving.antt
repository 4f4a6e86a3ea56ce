-- The row of a slot's end is written from that of its beginning.
use Rattle.std.proofs.Common.{◌≡◌, ℕ, ◌+◌, ◌-◌, ◌^◌, ◌<◌, ◌≤◌, ◌⊎◌, List, length, slice_index, arith, inl, inr, ap, sym, ◌∙◌}
use Rattle.std.proofs.lemmas.Bool.{cases_lt}
use Rattle.std.proofs.lemmas.List.{ext_get_or, with_items_is}
use Rattle.std.specs.Vec.{with_items}
use Rattle.ltm_curve.specs.declared.curves.Curves.{Curves}
use Rattle.ltm_curve.specs.First.{list_below}
use Rattle.ltm_curve.specs.Table.{place, counts_of}
use Rattle.ltm_curve.proofs.Lists.{length-list_below, index-list_below}
use Rattle.ltm_curve.proofs.PutOver.{put_over, length_over, before_over, in_over, after_over, small_over, IsRowWritten}

-- the counts of a group at a slot's beginning and amounts that are added
abbrev pub moved_row : Curves → ℕ → ℕ → List ℕ → List ℕ
moved_row c g t amounts = list_below (length amounts) (λ d. counts_of c g d t + slice_index amounts d)

pub moved_at : (c : Curves) (g t : ℕ) (amounts : List ℕ) (d : ℕ) → d < length amounts → slice_index (moved_row c g t amounts) d ≡ counts_of c g d t + slice_index amounts d
moved_at c g t amounts d l = index-list_below (length amounts) (λ e. counts_of c g e t + slice_index amounts e) d l

-- a count of the slot's beginning in the table
pub count_from : (c : Curves) (g t from d : ℕ) → from ≡ place c g 0 t → slice_index c.counts.items (from + d) ≡ counts_of c g d t
unfolding counts_of
count_from c g t from d at = let here : from + d ≡ place c g d t = omega arith in ap (slice_index c.counts.items) here

-- a table that differs from another in one part alone is it with that part written over
over_is : (to n : ℕ) (old new row : List ℕ) → to + n ≤ length old → length new ≡ length old → length row ≡ n → ((d : ℕ) → d < n → slice_index new (to + d) ≡ slice_index row d) →
    ((i : ℕ) → (i < to) ⊎ (to + n ≤ i) → slice_index new i ≡ slice_index old i) → new ≡ put_over to (to + n) old row
over_is to n old new row within long many each others =
    ext_get_or 0 new (put_over to (to + n) old row) (long ∙ sym (length_over to (to + n) old row (omega arith) within (omega arith)))
    (λ i l. elim (cases_lt i to) [
      | inl before ↦ others i (inl before) ∙ sym (before_over to (to + n) old row i (omega arith) within before)
      | inr from ↦ elim (cases_lt i (to + n)) [
        | inl here ↦
            let at : to + (i - to) ≡ i = omega arith in
            ap (slice_index new) (sym at) ∙ (each (i - to) (omega arith) ∙ (sym (in_over to (to + n) old row (i - to) (omega arith) within (omega arith)) ∙ ap (slice_index (put_over to (to + n) old row)) at))
        | inr after ↦
            let behind : to + n ≤ i = omega arith in
            others i (inr behind) ∙ sym (after_over to (to + n) old row i (omega arith) within (omega arith) behind)
      ]
    ])

pub sums_written : (c : Curves) (g t from to : ℕ) (amounts lent new : List ℕ) → lent ≡ c.counts.items → length lent ≡ c.counts.len → length new ≡ length lent → from ≡ place c g 0 t → to + c.destinations ≤ length c.counts.items →
    length amounts ≡ c.destinations → ((d : ℕ) → d < length amounts → counts_of c g d t + slice_index amounts d < 2 ^ 31) →
    ((d : ℕ) → d < length amounts → slice_index new (to + d) ≡ slice_index lent (from + d) + slice_index amounts d) → ((i : ℕ) → (i < to) ⊎ (to + length amounts ≤ i) → slice_index new i ≡ slice_index lent i) →
    IsRowWritten c to (moved_row c g t amounts) (with_items c.counts new).items
sums_written c g t from to amounts lent new whole len long at within many small sums others =
    let n : ℕ = c.destinations in
    let items : List ℕ = c.counts.items in
    let row : List ℕ = moved_row c g t amounts in
    let wide : length row ≡ n = length-list_below (length amounts) (λ d. counts_of c g d t + slice_index amounts d) ∙ many in
    let same : (i : ℕ) → slice_index lent i ≡ slice_index items i = λ i. ap (λ (xs : List ℕ). slice_index xs i) whole in
    let put : new ≡ put_over to (to + n) items row =
    over_is to n items new row within (long ∙ ap length whole) wide
    (λ d l. omega (arith, sums d (omega (arith, l, many)), same (from + d), count_from c g t from d at, moved_at c g t amounts d (omega (arith, l, many))))
    (λ i out. others i (elim out [ inl before ↦ inl before | inr after ↦ inr (omega (arith, after, many)) ]) ∙ same i) in
    let all = with_items_is c.counts new (long ∙ len) ∙ put in
    record {
      put = all;
      long = ap length all ∙ (length_over to (to + n) items row (omega arith) within (omega (arith, wide)) ∙ c.long);
      small = λ i. omega (
        arith,
        ap (λ (xs : List ℕ). slice_index xs i) all,
        small_over to (to + n) items row (2 ^ 31) (omega arith) within (omega (arith, wide)) c.small (λ d l. omega (arith, moved_at c g t amounts d (omega (arith, l, wide, many)), small d (omega (arith, l, wide, many)))) i,
      );
    }
