-- What the table of an origin, and its own rows, say of what it has produced.
use Rattle.std.proofs.Common.{◌≡◌, ◌==◌, ◌&&◌, ℕ, ◌+◌, ◌<◌, ◌≤◌, Bool, true, false, cond, List, [], ◌∷◌, ◌++◌, length, get_or, sum_by, All, arith, refl, ap, sym, subst, ◌∙◌, inl, inr}
use Rattle.std.specs.List.{AllByRecursion}
use Rattle.std.specs.List.Sorted.{IsStrictlySortedBy}
use Rattle.std.specs.declared.cmp.Ordering.TheVariants.{Less}
use Rattle.std.proofs.lemmas.Bool.{cases_lt}
use Rattle.std.proofs.lemmas.Bool.Decides.{nat_tests}
use Rattle.std.proofs.lemmas.List.Sums.{sum_by-append, sum_by-cons}
use Rattle.std.proofs.lemmas.List.Elements.{recursion_from_All}
use Rattle.std.proofs.lemmas.Map.Keys.{Less-from_sorted}
use Rattle.ltm_demand.specs.declared.row.DemandRow.{DemandRow}
use Rattle.ltm_demand.specs.Rows.{row_cmp, IsDemandRow}
use Rattle.ltm_demand.specs.Produced.{produced, joins, part, by_end, part_to, by_end_to, total}
use Rattle.ltm_demand.specs.Productions.{seen_by_end, told}
use Rattle.ltm_demand.specs.Origins.{OriginData, origin_at, rows_of}
use Rattle.ltm_demand.specs.Kept.{IsKept}
use Rattle.ltm_demand.specs.Places.{NeverFall}
use Rattle.ltm_units.specs.Bounds.{most_amount, most_produced}
use Rattle.ltm_demand.proofs.State.{total_le}
use Rattle.ltm_demand.proofs.Joined.{parted_at, front, back, front_before, back_behind, sorted_own}
use Rattle.ltm_demand.proofs.KeptOrigins.{each_own}

elsewhere : (o d t : ℕ) (row : DemandRow) → (row.origin.0 ≡ o → ⊥) → part o d t row ≡ 0
unfolding part
elsewhere o d t row other = let e : joins o d row ≡ false = grind (arith, nat_tests) in ap (λ b. cond b (produced row.from row.to row.amount.0 t) 0) e

here : (o d t : ℕ) (row : DemandRow) → row.origin.0 ≡ o → part o d t row ≡ part_to d t row
unfolding part part_to
here o d t row own = let e : joins o d row ≡ (row.destination == d) = (let f : (row.origin.0 == o) ≡ true = grind (arith, nat_tests) in ap (λ b. b && (row.destination == d)) f) in ap (λ b. cond b (produced row.from row.to row.amount.0 t) 0) e

none_of : (o d t : ℕ) (rows : List DemandRow) → AllByRecursion (λ r. r.origin.0 ≡ o → ⊥) rows → by_end rows o d t ≡ 0
none_of o d t [] all = refl
none_of o d t (r ∷ rs) all = omega (arith, sum_by-cons (part o d t) r rs, elsewhere o d t r all.0, none_of o d t rs all.1)

all_of : (o d t : ℕ) (rows : List DemandRow) → AllByRecursion (λ r. r.origin.0 ≡ o) rows → by_end rows o d t ≡ by_end_to rows d t
all_of o d t [] all = refl
all_of o d t (r ∷ rs) all = omega (arith, sum_by-cons (part o d t) r rs, sum_by-cons (part_to d t) r rs, here o d t r all.0, all_of o d t rs all.1)

all_mono : (P Q : DemandRow → Type 0) → ((x : DemandRow) → P x → Q x) → (xs : List DemandRow) → AllByRecursion P xs → AllByRecursion Q xs
all_mono P Q f [] all = tt
all_mono P Q f (x ∷ xs) all = (f x all.0, all_mono P Q f xs all.1)

not_less : (o : ℕ) (r : DemandRow) → r.origin.0 < o → r.origin.0 ≡ o → ⊥
not_less o r less same = absurd (omega (arith, less, same))

not_more : (o : ℕ) (r : DemandRow) → o < r.origin.0 → r.origin.0 ≡ o → ⊥
not_more o r less same = absurd (omega (arith, less, same))

module _ (slots most : ℕ) (tabled : Bool) (count : ℕ) (xs : List OriginData) (kept : IsKept slots most tabled count xs) (o : ℕ) where
  -- a table of each destination says what the rows have produced
  pub tells : tabled ≡ true → (d t : ℕ) → told (origin_at xs o).table (d + 1) t ≡ by_end (rows_of xs) o d t
  tells is d t = kept.each o d t ∙ ap (λ b. seen_by_end b (rows_of xs) o d t) is

  -- what an origin has produced is what its own rows have
  pub own_by_end : (d t : ℕ) → by_end_to (origin_at xs o).rows d t ≡ by_end (rows_of xs) o d t
  own_by_end d t =
      let f = part o d t in
      let own = (origin_at xs o).rows in
      omega (
        arith,
        ap (sum_by f) (parted_at xs o),
        sum_by-append f (front xs o) (own ++ back xs o),
        sum_by-append f own (back xs o),
        none_of o d t (front xs o) (all_mono (λ r. r.origin.0 < o) (λ r. r.origin.0 ≡ o → ⊥) (not_less o) (front xs o) (front_before xs kept.own o)),
        none_of o d t (back xs o) (all_mono (λ r. o < r.origin.0) (λ r. r.origin.0 ≡ o → ⊥) (not_more o) (back xs o) (back_behind xs kept.own o)),
        all_of o d t own (recursion_from_All (λ r. r.origin.0 ≡ o) own (kept.own o)),
      )

  -- its rows lie in the order of their destinations, are rows within the horizon, and few
  pub never_fall : NeverFall (origin_at xs o).rows
  never_fall i k d le inside = elim (cases_lt i k) [
    | inl less ↦
        let rows = (origin_at xs o).rows in
        let before : row_cmp (get_or rows i d) (get_or rows k d) ≡ Less = Less-from_sorted row_cmp rows i k d (sorted_own xs kept.own o kept.are_rows.ordered) less inside in
        let first : (get_or rows i d).origin.0 ≡ o = kept.own o i d (omega arith) in
        let second : (get_or rows k d).origin.0 ≡ o = kept.own o k d inside in
        below (get_or rows i d) (get_or rows k d) before (first ∙ sym second)
    | inr same ↦ let is : i ≡ k = omega arith in omega (arith, ap (λ n. (get_or (origin_at xs o).rows n d).destination) is)
  ]
    where
      below : (a b : DemandRow) → row_cmp a b ≡ Less → a.origin.0 ≡ b.origin.0 → a.destination ≤ b.destination
      below a b less own = grind (arith, nat_tests)

  pub each_is : All (λ row. (row.from < row.to) × (row.amount.0 ≤ most_amount)) (origin_at xs o).rows
  each_is k d inside = let is = each_own slots most tabled count xs o kept k d inside in (is.some_slots, is.small)

  pub own_total : total (origin_at xs o).rows ≤ most_produced
  own_total =
      let f : DemandRow → ℕ = λ r. r.amount.0 in
      let own = (origin_at xs o).rows in
      omega (arith, ap (sum_by f) (parted_at xs o), sum_by-append f (front xs o) (own ++ back xs o), sum_by-append f own (back xs o), total_le slots most (rows_of xs) kept.are_rows)
