-- The totals of the rows of a table, as the table changes.
use Rattle.std.proofs.Common.{◌≡◌, ◌≢◌, ℕ, ◌+◌, ◌*◌, ◌^◌, ◌<◌, ◌≤◌, List, length, replicate, sum, slice_index, slice_set, arith, inl, inr, ap, sym, ◌∙◌, get_or-set_same, get_or-set_other}
use Rattle.std.proofs.Math.Nat.{mul-le-mul_right}
use Rattle.std.proofs.lemmas.Bool.{cases_eq}
use Rattle.std.proofs.lemmas.Nat.{same_from_place}
use Rattle.ltm_units.specs.Bounds.{most_destinations}
use Rattle.ltm_units.specs.Sums.{sum_below}
use Rattle.ltm_units.proofs.Sums.{sum_below-same, sum_below-change, sum_below-most, sum_below-zero}
use Rattle.ltm_curve.specs.Totals.{row_sum, capped, most_total, AreCappedTotals}
use Rattle.ltm_curve.proofs.Lists.{sum_below-list, zero_index}
use Rattle.ltm_curve.proofs.PutOver.{put_over, before_over, in_over, after_over, outside}

-- the sum of a list of few small counts is small
pub list_small : (counts : List ℕ) → length counts ≤ most_destinations → ((d : ℕ) → d < length counts → slice_index counts d < 2 ^ 31) → sum counts ≤ most_total
list_small counts few small =
    omega (arith, sum_below-list counts, sum_below-most (length counts) (slice_index counts) (2 ^ 31) (λ d l. omega (arith, small d l)), mul-le-mul_right (2 ^ 31) few)

-- one count is set
set_here : (table : List ℕ) (width row d v : ℕ) → d < width → row * width + d < length table → row_sum (slice_set table (row * width + d) v) width row + slice_index table (row * width + d) ≡ row_sum table width row + v
set_here table width row d v l within =
    let at : ℕ = row * width + d in
    let others : (e : ℕ) → e < width → e ≢ d → slice_index (slice_set table (row * width + d) v) (row * width + e) ≡ slice_index table (row * width + e) =
    λ e m ne. get_or-set_other table (row * width + d) (row * width + e) v 0 (λ same. ne (omega arith)) in
    omega (
      arith,
      get_or-set_same table (row * width + d) v 0 within,
      sum_below-change width (λ e. slice_index (slice_set table (row * width + d) v) (row * width + e)) (λ e. slice_index table (row * width + e)) d l others,
    )

set_elsewhere : (table : List ℕ) (width row other d v : ℕ) → d < width → other ≢ row → row_sum (slice_set table (row * width + d) v) width other ≡ row_sum table width other
set_elsewhere table width row other d v l differs =
    sum_below-same width (λ e. slice_index (slice_set table (row * width + d) v) (other * width + e)) (λ e. slice_index table (other * width + e))
    (λ e m. get_or-set_other table (row * width + d) (other * width + e) v 0 (λ same. differs (same_from_place other e row d width m l same).0))

pub totals_set : (totals table : List ℕ) (width rows row at d others v kept : ℕ) → AreCappedTotals totals table width rows → d < width → at ≡ row * width + d → at < length table → row < length totals →
    others + slice_index table at ≡ row_sum table width row → kept ≡ capped (others + v) → AreCappedTotals (slice_set totals row kept) (slice_set table at v) width rows
totals_set totals table width rows row at d others v kept all l is_at within place is_total is_kept = λ other m.
    elim (cases_eq other row) [
      | inl same ↦
          let here : slice_index (slice_set totals row kept) row ≡ kept = get_or-set_same totals row kept 0 place in
          let first : slice_index table at ≡ slice_index table (row * width + d) = ap (slice_index table) is_at in
          let sums : others + v ≡ row_sum (slice_set table (row * width + d) v) width row = omega (arith, set_here table width row d v l (omega arith)) in
          ap (λ (z : ℕ). slice_index (slice_set totals row kept) z) same
          ∙ (here
          ∙ (is_kept ∙ ap capped (sums ∙ (ap (λ (z : ℕ). row_sum (slice_set table z v) width row) (sym is_at) ∙ ap (λ (z : ℕ). row_sum (slice_set table at v) width z) (sym same)))))
      | inr differs ↦
          get_or-set_other totals row other kept 0 differs
          ∙ (all other m ∙ ap capped (sym (set_elsewhere table width row other d v l differs) ∙ ap (λ (z : ℕ). row_sum (slice_set table z v) width other) (sym is_at)))
    ]

-- a small number is set among small ones
pub set_small : (table : List ℕ) (at v most : ℕ) → at < length table → v < most → ((i : ℕ) → slice_index table i < most) → (i : ℕ) → slice_index (slice_set table at v) i < most
set_small table at v most within new all i =
    elim (cases_eq i at) [
      | inl same ↦ let e : slice_index (slice_set table at v) i ≡ slice_index (slice_set table at v) at = ap (slice_index (slice_set table at v)) same in omega (arith, get_or-set_same table at v 0 within)
      | inr differs ↦ omega (arith, get_or-set_other table at i v 0 differs, all i)
    ]

-- one row is written over
over_here : (table counts : List ℕ) (width row : ℕ) → length counts ≡ width → row * width + width ≤ length table → row_sum (put_over (row * width) (row * width + width) table counts) width row ≡ sum counts
over_here table counts width row long within =
    sum_below-same width (λ d. slice_index (put_over (row * width) (row * width + width) table counts) (row * width + d)) (slice_index counts)
    (λ d l. in_over (row * width) (row * width + width) table counts d (omega arith) within (omega arith))
    ∙ (ap (λ (n : ℕ). sum_below n (slice_index counts)) (sym long) ∙ sum_below-list counts)

over_elsewhere : (table counts : List ℕ) (width row other : ℕ) → length counts ≡ width → row * width + width ≤ length table → other ≢ row → row_sum (put_over (row * width) (row * width + width) table counts) width other ≡ row_sum table width other
over_elsewhere table counts width row other long within differs =
    sum_below-same width (λ d. slice_index (put_over (row * width) (row * width + width) table counts) (other * width + d)) (λ d. slice_index table (other * width + d))
    (λ d l. elim (outside row other d width differs l) [
      | inl before ↦ before_over (row * width) (row * width + width) table counts (other * width + d) (omega arith) within before
      | inr after ↦ after_over (row * width) (row * width + width) table counts (other * width + d) (omega arith) within (omega arith) after
    ])

pub totals_over : (totals table new counts : List ℕ) (width rows row from kept : ℕ) → AreCappedTotals totals table width rows → new ≡ put_over from (from + width) table counts → length counts ≡ width → from ≡ row * width →
    from + width ≤ length table → row < length totals → kept ≡ capped (sum counts) → AreCappedTotals (slice_set totals row kept) new width rows
totals_over totals table new counts width rows row from kept all put long is_from within place is_kept = λ other m.
    let here : new ≡ put_over (row * width) (row * width + width) table counts = put ∙ ap (λ (z : ℕ). put_over z (z + width) table counts) is_from in
    let room : row * width + width ≤ length table = omega arith in
    ap (λ (z : ℕ). z) (elim (cases_eq other row) [
      | inl same ↦
          ap (λ (z : ℕ). slice_index (slice_set totals row kept) z) same
          ∙ (get_or-set_same totals row kept 0 place
          ∙ (is_kept ∙ ap capped (sym (over_here table counts width row long room) ∙ ap (λ (z : ℕ). row_sum (put_over (row * width) (row * width + width) table counts) width z) (sym same))))
      | inr differs ↦ get_or-set_other totals row other kept 0 differs ∙ (all other m ∙ ap capped (sym (over_elsewhere table counts width row other long room differs)))
    ])
    ∙ ap (λ (xs : List ℕ). capped (row_sum xs width other)) (sym here)

-- tables of zeros
pub zeros_at : (table : List ℕ) (n : ℕ) → table ≡ replicate n 0 → (i : ℕ) → slice_index table i ≡ 0
zeros_at table n e i = omega (arith, ap (λ (xs : List ℕ). slice_index xs i) e, zero_index n i)

pub zeros_total : (totals table : List ℕ) (m n width rows : ℕ) → totals ≡ replicate m 0 → table ≡ replicate n 0 → AreCappedTotals totals table width rows
zeros_total totals table m n width rows e f = λ row l.
    omega (
      arith,
      zeros_at totals m e row,
      sum_below-zero width (λ d. slice_index table (row * width + d)) (λ d k. zeros_at table n f (row * width + d)),
    )

-- the same tables of one shape
pub totals_same : (totals table others other : List ℕ) (width rows wide long : ℕ) → totals ≡ others → table ≡ other → width ≡ wide → rows ≡ long → AreCappedTotals others other wide long → AreCappedTotals totals table width rows
totals_same totals table others other width rows wide long e f g h all = λ row l.
    ap (λ (xs : List ℕ). slice_index xs row) e
    ∙ (all row (omega arith) ∙ ap capped (ap (λ (n : ℕ). row_sum other n row) (sym g) ∙ ap (λ (xs : List ℕ). row_sum xs width row) (sym f)))
