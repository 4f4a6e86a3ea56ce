-- What a binary search finds among rows in the order of their keys.
use Rattle.std.proofs.Common.{◌≡◌, ℕ, suc, ◌+◌, ◌<◌, ◌≤◌, false, List, length, get_or, Result, Ok, Err, IfOk, IfErr, arith, ap, sym, subst, ◌∙◌, inl, inr}
use Rattle.std.specs.List.{HoldsAt}
use Rattle.std.specs.List.Sorted.{IsStrictlySortedBy, IsSortedBy, IsNonDecreasingBy, IsSearchInRange, IsBinarySearchResult, IsPartitionPoint}
use Rattle.std.specs.declared.cmp.Ordering.TheVariants.{Less, Equal, Greater}
use Rattle.std.specs.Ordering.{is_lt, is_eq, is_gt, ordering_index}
use Rattle.std.proofs.lemmas.Bool.{cases_lt}
use Rattle.std.proofs.lemmas.Cmp.{alike_right}
use Rattle.std.proofs.lemmas.Map.Keys.{Less-from_sorted}
use Rattle.std.proofs.lemmas.List.Sorted.{searchable_from_sorted}
use Rattle.ltm_demand.specs.declared.row.DemandRow.{DemandRow}
use Rattle.ltm_demand.specs.Rows.{row_cmp, before, standing, behind}
use Rattle.ltm_demand.specs.Places.{IsAt, IsGap}
use Rattle.ltm_demand.proofs.Filters.{filter_front, filter_back, filter_one, filter_none}
use Rattle.ltm_demand.proofs.Ordered.{row_total, greater_back}

module _ (rows : List DemandRow) (sorted : IsStrictlySortedBy row_cmp rows) (row : DemandRow) where
  rises : IsSortedBy (λ a b. is_lt (row_cmp a b)) rows
  rises k d low high = ap is_lt (greater_back (get_or rows k d) (get_or rows (k + 1) d) (Less-from_sorted row_cmp rows k (k + 1) d sorted (omega arith) high))

  -- the comparisons with the row rise along the rows
  searchable : IsNonDecreasingBy (λ y. ordering_index (row_cmp y row)) rows
  searchable = searchable_from_sorted row_total (λ (r : DemandRow). r) rows row rises

  module _ (i : ℕ) (inside : i < length rows) (here : HoldsAt (λ y. row_cmp y row ≡ Equal) rows i) where
    below : (k : ℕ) (d : DemandRow) → k < i → row_cmp (get_or rows k d) row ≡ Less
    below k d less = sym (alike_right row_total (get_or rows i d) row (get_or rows k d) (here d)) ∙ Less-from_sorted row_cmp rows k i d sorted less inside

    above : (k : ℕ) (d : DemandRow) → i < k → k < length rows → row_cmp (get_or rows k d) row ≡ Greater
    above k d more within = greater_back row (get_or rows k d) (sym (row_total.congr (get_or rows i d) row (get_or rows k d) (here d)) ∙ Less-from_sorted row_cmp rows i k d sorted more within)

    not_below : (k : ℕ) (d : DemandRow) → i ≤ k → k < length rows → is_lt (row_cmp (get_or rows k d) row) ≡ false
    not_below k d more within = elim (cases_lt i k) [
      | inl less ↦ ap is_lt (above k d less within)
      | inr le ↦ let same : i ≡ k = omega arith in subst (λ n. is_lt (row_cmp (get_or rows n d) row) ≡ false) same (ap is_lt (here d))
    ]

    not_above : (k : ℕ) (d : DemandRow) → k < suc i → k < length rows → is_gt (row_cmp (get_or rows k d) row) ≡ false
    not_above k d less within = elim (cases_lt k i) [
      | inl under ↦ ap is_gt (below k d under)
      | inr le ↦ let same : i ≡ k = omega arith in subst (λ n. is_gt (row_cmp (get_or rows n d) row) ≡ false) same (ap is_gt (here d))
    ]

    pub found_at : IsAt rows row i
    unfolding before standing behind
    found_at = record {
      within = inside;
      same = here row;
      before_is = filter_front (λ r. is_lt (row_cmp r row)) rows i (λ k d less within. ap is_lt (below k d less)) not_below;
      standing_is = filter_one (λ r. is_eq (row_cmp r row)) rows i row inside (λ d. ap is_eq (here d)) (λ k d less within. ap is_eq (below k d less)) (λ k d more within. ap is_eq (above k d more within));
      behind_is = filter_back (λ r. is_gt (row_cmp r row)) rows (suc i) not_above (λ k d more within. ap is_gt (above k d (omega arith) within));
    }

  pub gap_at : (i : ℕ) → i ≤ length rows → IsPartitionPoint (λ y. row_cmp y row ≡ Less) (λ y. row_cmp y row ≡ Greater) rows i → IsGap rows row i
  unfolding before standing behind
  gap_at i inside parts = record {
    within = inside;
    before_is = filter_front (λ r. is_lt (row_cmp r row)) rows i (λ k d less within. ap is_lt (parts.0 k d (omega arith) less)) (λ k d more within. ap is_lt (parts.1 k d more within));
    standing_is = filter_none (λ r. is_eq (row_cmp r row)) rows (λ k d within. elim (cases_lt k i) [
      | inl less ↦ ap is_eq (parts.0 k d (omega arith) less)
      | inr more ↦ ap is_eq (parts.1 k d more within)
    ]);
    behind_is = filter_back (λ r. is_gt (row_cmp r row)) rows i (λ k d less within. ap is_gt (parts.0 k d (omega arith) less)) (λ k d more within. ap is_gt (parts.1 k d more within));
  }

  pub searched : (r : Result ℕ ℕ) → IsSearchInRange r (length rows) → IsBinarySearchResult (λ y. row_cmp y row) rows r → record { found : IfOk r (IsAt rows row); absent : IfErr r (IsGap rows row) }
  searched (Ok i) inside here = record { found = found_at i inside here; absent = tt }
  searched (Err i) inside parted = record { found = tt; absent = gap_at i inside (parted searchable) }
