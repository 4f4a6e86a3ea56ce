-- What stood at a row's key, and what setting the row keeps and gives back.
use Rattle.std.proofs.Common.{◌≡◌, ℕ, suc, ◌+◌, ◌<◌, ◌≤◌, ◌==◌, Bool, true, false, cond, List, [], ◌∷◌, ◌++◌, length, get_or, take, drop, filter, sum_by, All, arith, refl, ap, sym, ◌∙◌}
use Rattle.std.specs.List.{AllByRecursion}
use Rattle.std.specs.List.Sorted.{IsStrictlySortedBy}
use Rattle.std.specs.declared.cmp.Ordering.TheVariants.{Less}
use Rattle.std.specs.Ordering.{is_lt, is_eq, is_gt}
use Rattle.std.proofs.lemmas.Cmp.{tied_itself}
use Rattle.std.proofs.lemmas.Bool.Decides.{nat_tests}
use Rattle.std.proofs.lemmas.List.{append-nil, drop_more, take-append-drop, length-append}
use Rattle.std.proofs.lemmas.List.Elements.{filter-append, All-append, All-filter, All-get_or, All-cons, All-nil}
use Rattle.std.proofs.lemmas.List.Sums.{sum_by-append, sum_by-le, sum_by-le-sum_by}
use Rattle.std.proofs.lemmas.List.Kept.{IsStrictlySortedBy-filter}
use Rattle.ltm_demand.specs.declared.row.DemandRow.{DemandRow}
use Rattle.ltm_demand.specs.Rows.{row_cmp, before, standing, behind, row_if_any, edited_rows, amount_at, with_amount, has_slots, IsDemandRow}
use Rattle.ltm_demand.specs.Produced.{part, by_end, origin_part, origin_by_end}
use Rattle.ltm_demand.specs.Productions.{seen, seen_by_end}
use Rattle.ltm_demand.specs.Kept.{AreDemandRows}
use Rattle.ltm_demand.specs.Places.{IsAt, IsGap}
use Rattle.ltm_units.specs.Bounds.{most_amount, most_produced}
use Rattle.ltm_demand.proofs.Parts.{part_le}
use Rattle.ltm_demand.proofs.Destinations.{origin_part_le}
use Rattle.ltm_demand.proofs.Filters.{filter_twice, filter_apart, all_passed}
use Rattle.ltm_demand.proofs.Ordered.{row_total, same_key_is, lt_less, gt_greater, less_back, sorted_cons, sorted_append}
use Rattle.ltm_demand.proofs.Edits.{amount_found, amount_absent}

-- was units stood at the key of the row
pub record IsWas (rows : List DemandRow) (row : DemandRow) (was : ℕ) : Type 0 where
  pub standing_is : standing rows row ≡ row_if_any (with_amount row was)
  pub parted : rows ≡ before rows row ++ (row_if_any (with_amount row was) ++ behind rows row)
  pub amount : was ≡ amount_at rows row
  pub small : was ≤ most_amount

some_shown : (row : DemandRow) → 0 < row.amount.0 → row_if_any row ≡ row ∷ []
some_shown row some = let e : (row.amount.0 == 0) ≡ false = grind (arith, nat_tests) in ap (λ b. cond b [] (row ∷ [])) e

pub was_at : (slots : ℕ) (rows : List DemandRow) (row : DemandRow) (i was : ℕ) → All (IsDemandRow slots) rows → IsAt rows row i → was ≡ amount_at rows row → IsWas rows row was
was_at slots rows row i was each at is =
    let x = get_or rows i row in
    let own : IsDemandRow slots x = All-get_or (IsDemandRow slots) rows i row at.within each in
    let amount : was ≡ x.amount.0 = is ∙ amount_found rows row i at in
    let key : x ≡ with_amount row was = same_key_is x row at.same ∙ ap (λ a. with_amount row a) (sym amount) in
    let one : row_if_any (with_amount row was) ≡ x ∷ [] = some_shown (with_amount row was) (omega (arith, own.some_units)) ∙ ap (λ y. y ∷ []) (sym key) in
    let rest : drop i rows ≡ x ∷ drop (i + 1) rows = drop_more rows i row at.within in
    let next : drop (i + 1) rows ≡ behind rows row = ap (λ n. drop n rows) (let e : i + 1 ≡ suc i = omega arith in e) ∙ sym at.behind_is in
    record {
      standing_is = at.standing_is ∙ sym one;
      parted = sym (ap (λ s. before rows row ++ (s ++ behind rows row)) one ∙ ap (λ b. before rows row ++ (x ∷ b)) (sym next) ∙ ap (λ d. before rows row ++ d) (sym rest) ∙ ap (λ f. f ++ drop i rows) at.before_is ∙ take-append-drop i rows);
      amount = is;
      small = omega (arith, own.small);
    }

pub was_gap : (rows : List DemandRow) (row : DemandRow) (i : ℕ) → IsGap rows row i → IsWas rows row 0
was_gap rows row i gap = record {
  standing_is = gap.standing_is;
  parted = sym (ap (λ f. f ++ behind rows row) gap.before_is ∙ ap (λ b. take i rows ++ b) gap.behind_is ∙ take-append-drop i rows);
  amount = sym (amount_absent rows row i gap);
  small = omega arith;
}

-- a row is neither before nor behind itself
shown_fails : (p : DemandRow → Bool) (row : DemandRow) → p row ≡ false → filter p (row_if_any row) ≡ []
shown_fails p row fails = elim (row.amount.0 == 0) as (λ b. filter p (cond b [] (row ∷ [])) ≡ []) [ true ↦ refl | false ↦ ap (λ b. cond b (row ∷ []) []) fails ]

shown_passes : (p : DemandRow → Bool) (row : DemandRow) → p row ≡ true → filter p (row_if_any row) ≡ row_if_any row
shown_passes p row passes = elim (row.amount.0 == 0) as (λ b. filter p (cond b [] (row ∷ [])) ≡ cond b [] (row ∷ [])) [ true ↦ refl | false ↦ ap (λ b. cond b (row ∷ []) []) passes ]

filter_three : (p : DemandRow → Bool) (f s b : List DemandRow) → filter p (f ++ (s ++ b)) ≡ filter p f ++ (filter p s ++ filter p b)
filter_three p f s b = filter-append p f (s ++ b) ∙ ap (λ t. filter p f ++ t) (filter-append p s b)

-- what stands before the row's place, at its key and behind it once the row is set
pub before_edited : (rows : List DemandRow) (row : DemandRow) → before (edited_rows rows row) row ≡ before rows row
unfolding before edited_rows behind
before_edited rows row =
    let p : DemandRow → Bool = λ r. is_lt (row_cmp r row) in
    let q : DemandRow → Bool = λ r. is_gt (row_cmp r row) in
    filter_three p (filter p rows) (row_if_any row) (filter q rows)
    ∙ ap (λ f. f ++ (filter p (row_if_any row) ++ filter p (filter q rows))) (filter_twice p rows)
    ∙ ap (λ s. filter p rows ++ (s ++ filter p (filter q rows))) (shown_fails p row (ap is_lt (tied_itself row_total row)))
    ∙ ap (λ b. filter p rows ++ b) (filter_apart p q (λ x is. ap is_lt (gt_greater (row_cmp x row) is)) rows)
    ∙ append-nil (filter p rows)

pub behind_edited : (rows : List DemandRow) (row : DemandRow) → behind (edited_rows rows row) row ≡ behind rows row
unfolding before edited_rows behind
behind_edited rows row =
    let p : DemandRow → Bool = λ r. is_lt (row_cmp r row) in
    let q : DemandRow → Bool = λ r. is_gt (row_cmp r row) in
    filter_three q (filter p rows) (row_if_any row) (filter q rows)
    ∙ ap (λ f. f ++ (filter q (row_if_any row) ++ filter q (filter q rows))) (filter_apart q p (λ x is. ap is_gt (lt_less (row_cmp x row) is)) rows)
    ∙ ap (λ s. s ++ filter q (filter q rows)) (shown_fails q row (ap is_gt (tied_itself row_total row)))
    ∙ filter_twice q rows

pub standing_edited : (rows : List DemandRow) (row : DemandRow) → standing (edited_rows rows row) row ≡ row_if_any row
unfolding before edited_rows behind standing
standing_edited rows row =
    let p : DemandRow → Bool = λ r. is_lt (row_cmp r row) in
    let q : DemandRow → Bool = λ r. is_gt (row_cmp r row) in
    let e : DemandRow → Bool = λ r. is_eq (row_cmp r row) in
    filter_three e (filter p rows) (row_if_any row) (filter q rows)
    ∙ ap (λ f. f ++ (filter e (row_if_any row) ++ filter e (filter q rows))) (filter_apart e p (λ x is. ap is_eq (lt_less (row_cmp x row) is)) rows)
    ∙ ap (λ s. s ++ filter e (filter q rows)) (shown_passes e row (ap is_eq (tied_itself row_total row)))
    ∙ ap (λ b. row_if_any row ++ b) (filter_apart e q (λ x is. ap is_eq (gt_greater (row_cmp x row) is)) rows)
    ∙ append-nil (row_if_any row)

-- setting the row with what was there gives the rows back
pub edited_back : (rows : List DemandRow) (row : DemandRow) (was : ℕ) → IsWas rows row was → edited_rows (edited_rows rows row) (with_amount row was) ≡ rows
unfolding edited_rows before behind
edited_back rows row was is =
    let f : before (edited_rows rows row) (with_amount row was) ≡ before rows row = before_edited rows row in
    let b : behind (edited_rows rows row) (with_amount row was) ≡ behind rows row = behind_edited rows row in
    ap (λ x. x ++ (row_if_any (with_amount row was) ++ behind (edited_rows rows row) (with_amount row was))) f
    ∙ ap (λ y. before rows row ++ (row_if_any (with_amount row was) ++ y)) b
    ∙ sym is.parted

sum_by-three : (f : DemandRow → ℕ) (xs ys zs : List DemandRow) → sum_by f (xs ++ (ys ++ zs)) ≡ sum_by f xs + (sum_by f ys + sum_by f zs)
sum_by-three f xs ys zs = omega (arith, sum_by-append f xs (ys ++ zs), sum_by-append f ys zs)

-- what a row of amount 0 has nothing of is of what is shown what it is of the row
of_shown : (f : DemandRow → ℕ) → ((r : DemandRow) → f r ≤ r.amount.0) → (row : DemandRow) → sum_by f (row_if_any row) ≡ f row
of_shown f few row = elim (row.amount.0 == 0) as (λ b. (row.amount.0 == 0) ≡ b → sum_by f (cond b [] (row ∷ [])) ≡ f row) [
  | true ↦ λ none. let zero : row.amount.0 ≡ 0 = grind (arith, nat_tests) in omega (arith, few row)
  | false ↦ λ _. omega arith
] refl

pub length_edited : (rows : List DemandRow) (row : DemandRow) (was : ℕ) → IsWas rows row was → length (edited_rows rows row) + length (row_if_any (with_amount row was)) ≡ length rows + length (row_if_any row)
unfolding edited_rows
length_edited rows row was is =
    omega (arith, ap length is.parted, length-append (before rows row) (row_if_any row ++ behind rows row), length-append (row_if_any row) (behind rows row), length-append (before rows row) (row_if_any (with_amount row was) ++ behind rows row), length-append (row_if_any (with_amount row was)) (behind rows row))

-- the sums of the rows after a set: the new part in place of the old, which is in the sum
module _ (f : DemandRow → ℕ) (few : (r : DemandRow) → f r ≤ r.amount.0) (rows : List DemandRow) (row : DemandRow) (was : ℕ) (is : IsWas rows row was) where
  sum_edited : sum_by f (edited_rows rows row) + f (with_amount row was) ≡ sum_by f rows + f row
  unfolding edited_rows
  sum_edited =
      omega (arith, ap (sum_by f) is.parted, sum_by-three f (before rows row) (row_if_any row) (behind rows row), sum_by-three f (before rows row) (row_if_any (with_amount row was)) (behind rows row), of_shown f few row, of_shown f few (with_amount row was))

  sum_was : f (with_amount row was) ≤ sum_by f rows
  sum_was = omega (arith, ap (sum_by f) is.parted, sum_by-three f (before rows row) (row_if_any (with_amount row was)) (behind rows row), of_shown f few (with_amount row was))

pub seen_edited : (tabled : Bool) (rows : List DemandRow) (row : DemandRow) (was o d t : ℕ) → IsWas rows row was → seen_by_end tabled (edited_rows rows row) o d t + part o d t (seen tabled (with_amount row was)) ≡ seen_by_end tabled rows o d t + part o d t (seen tabled row)
seen_edited tabled rows row was o d t is = sum_edited (λ r. part o d t (seen tabled r)) (λ r. part_le o d t (seen tabled r)) rows row was is

pub seen_was : (tabled : Bool) (rows : List DemandRow) (row : DemandRow) (was o d t : ℕ) → IsWas rows row was → part o d t (seen tabled (with_amount row was)) ≤ seen_by_end tabled rows o d t
seen_was tabled rows row was o d t is = sum_was (λ r. part o d t (seen tabled r)) (λ r. part_le o d t (seen tabled r)) rows row was is

pub origin_edited : (rows : List DemandRow) (row : DemandRow) (was o t : ℕ) → IsWas rows row was → origin_by_end (edited_rows rows row) o t + origin_part o t (with_amount row was) ≡ origin_by_end rows o t + origin_part o t row
origin_edited rows row was o t is = sum_edited (origin_part o t) (origin_part_le o t) rows row was is

pub origin_part_was : (rows : List DemandRow) (row : DemandRow) (was o t : ℕ) → IsWas rows row was → origin_part o t (with_amount row was) ≤ origin_by_end rows o t
origin_part_was rows row was o t is = sum_was (origin_part o t) (origin_part_le o t) rows row was is

pub total_le : (slots most : ℕ) (rows : List DemandRow) → AreDemandRows slots most rows → sum_by (λ r. r.amount.0) rows ≤ most_produced
total_le slots most rows are = omega (arith, sum_by-le (λ (r : DemandRow). r.amount.0) most_amount rows (λ k d less. (are.each k d less).small), are.few, are.bounded)

pub seen_le : (tabled : Bool) (rows : List DemandRow) (o d t : ℕ) → seen_by_end tabled rows o d t ≤ sum_by (λ r. r.amount.0) rows
seen_le tabled rows o d t = sum_by-le-sum_by (λ r. part o d t (seen tabled r)) (λ r. r.amount.0) rows (λ r. part_le o d t (seen tabled r))

pub by_end_le : (rows : List DemandRow) (o d t : ℕ) → by_end rows o d t ≤ sum_by (λ r. r.amount.0) rows
by_end_le rows o d t = sum_by-le-sum_by (part o d t) (λ r. r.amount.0) rows (part_le o d t)

-- the rows stay in the order of their keys
ordered_edited : (rows : List DemandRow) (row : DemandRow) → IsStrictlySortedBy row_cmp rows → IsStrictlySortedBy row_cmp (edited_rows rows row)
unfolding before edited_rows behind
ordered_edited rows row sorted =
    let p : DemandRow → Bool = λ r. is_lt (row_cmp r row) in
    let q : DemandRow → Bool = λ r. is_gt (row_cmp r row) in
    let back = IsStrictlySortedBy-filter row_cmp q rows sorted in
    let above = all_passed q (λ y. row_cmp row y ≡ Less) (λ y is. less_back y row (gt_greater (row_cmp y row) is)) rows in
    let far : (x : DemandRow) → p x ≡ true → AllByRecursion (λ y. row_cmp x y ≡ Less) (filter q rows) =
    λ x is. all_passed q (λ y. row_cmp x y ≡ Less) (λ y more. row_total.trans x row y (lt_less (row_cmp x row) is) (less_back y row (gt_greater (row_cmp y row) more))) rows in
    elim (row.amount.0 == 0) as (λ b. IsStrictlySortedBy row_cmp (filter p rows ++ (cond b [] (row ∷ []) ++ filter q rows))) [
      | true ↦ sorted_append (filter p rows) (filter q rows) (IsStrictlySortedBy-filter row_cmp p rows sorted) back (all_passed p _ far rows)
      | false ↦ sorted_append (filter p rows) (row ∷ filter q rows) (IsStrictlySortedBy-filter row_cmp p rows sorted) (sorted_cons row (filter q rows) above back)
          (all_passed p (λ x. AllByRecursion (λ y. row_cmp x y ≡ Less) (row ∷ filter q rows)) (λ x is. (lt_less (row_cmp x row) is, far x is)) rows)
    ]

each_shown : (slots : ℕ) (row : DemandRow) → has_slots slots row ≡ true → row.amount.0 ≤ most_amount → All (IsDemandRow slots) (row_if_any row)
each_shown slots row in' small = elim (row.amount.0 == 0) as (λ b. (row.amount.0 == 0) ≡ b → All (IsDemandRow slots) (cond b [] (row ∷ []))) [
  | true ↦ λ _. All-nil (IsDemandRow slots)
  | false ↦ λ some. All-cons (IsDemandRow slots) row [] (record { some_slots = grind (arith, nat_tests); within = grind (arith, nat_tests); some_units = grind (arith, nat_tests); small = small }) (All-nil (IsDemandRow slots))
] refl

-- what holds of the rows and of the row holds of the rows once it is set
pub all_edited : (P : DemandRow → Type 0) (rows : List DemandRow) (row : DemandRow) → All P rows → All P (row_if_any row) → All P (edited_rows rows row)
unfolding before edited_rows behind
all_edited P rows row all own = All-append P (before rows row) (row_if_any row ++ behind rows row) (All-filter (λ r. is_lt (row_cmp r row)) P rows all)
    (All-append P (row_if_any row) (behind rows row) own (All-filter (λ r. is_gt (row_cmp r row)) P rows all))

pub all_shown : (P : DemandRow → Type 0) (row : DemandRow) → P row → All P (row_if_any row)
all_shown P row is = elim (row.amount.0 == 0) as (λ b. All P (cond b [] (row ∷ []))) [ true ↦ All-nil P | false ↦ All-cons P row [] is (All-nil P) ]

pub rows_edited : (slots most : ℕ) (rows : List DemandRow) (row : DemandRow) → AreDemandRows slots most rows → has_slots slots row ≡ true → row.amount.0 ≤ most_amount → length (edited_rows rows row) ≤ most → AreDemandRows slots most (edited_rows rows row)
rows_edited slots most rows row are in' small few = record {
  ordered = ordered_edited rows row are.ordered;
  each = all_edited (IsDemandRow slots) rows row are.each (each_shown slots row in' small);
  few = few;
  bounded = are.bounded;
}
