-- What a set leaves as it was.
use Rattle.std.proofs.Common.{◌≡◌, ℕ, ◌+◌, ◌<◌, List, [], ◌∷◌, ◌++◌, false, cond, arith, inl, inr, refl, ap, sym, ◌∙◌}
use Rattle.std.specs.Prelude.{filter, sum_by, ◌==◌}
use Rattle.std.specs.declared.cmp.Ordering.{Ordering}
use Rattle.std.specs.declared.cmp.Ordering.TheVariants.{Less, Equal, Greater}
use Rattle.std.specs.Ordering.{is_lt, is_gt}
use Rattle.std.proofs.lemmas.Bool.{cases_Bool}
use Rattle.std.proofs.lemmas.Bool.Decides.{nat_tests}
use Rattle.std.proofs.lemmas.List.Sums.{sum_by-append, sum_by-cons}
use Rattle.ltm_demand.specs.declared.row.DemandRow.{DemandRow}
use Rattle.ltm_demand.specs.Rows.{row_cmp, before, behind, row_if_any, edited_rows, with_amount}
use Rattle.ltm_demand.specs.Produced.{produced, joins, part, by_end, IsSilent}
use Rattle.ltm_demand.proofs.Ordered.{same_key_is}

early : (from to amount t : ℕ) → t < from → produced from to amount t ≡ 0
unfolding produced
early from to amount t l = grind (arith, nat_tests)

elsewhere : (o d : ℕ) (row : DemandRow) → (row.origin.0 ≡ o → ⊥) → joins o d row ≡ false
elsewhere o d row h = grind (arith, nat_tests)

silent_part : (o d t : ℕ) (row : DemandRow) → IsSilent o t row → part o d t row ≡ 0
unfolding part
silent_part o d t row (inl other) = rw (elsewhere o d row other) refl
silent_part o d t row (inr soon) = elim (cases_Bool (joins o d row)) [
  | inl a ↦ rw a (early row.from row.to row.amount.0 t soon)
  | inr a ↦ rw a refl
]

-- a row of the same key is as silent
same_silence : (o d t : ℕ) (r row : DemandRow) → row_cmp r row ≡ Equal → IsSilent o t row → IsSilent o t r
same_silence o d t r row e (inl other) = let is : r ≡ with_amount row r.amount.0 = same_key_is r row e in inl (λ h. other (let a : r.origin.0 ≡ row.origin.0 = ap (λ (x : DemandRow). x.origin.0) is in sym a ∙ h))
same_silence o d t r row e (inr soon) = let is : r ≡ with_amount row r.amount.0 = same_key_is r row e in inr (let a : r.from ≡ row.from = ap (λ (x : DemandRow). x.from) is in omega arith)

-- the rows before and behind a row's place have all the parts
parted : (o d t : ℕ) (row : DemandRow) (rows : List DemandRow) → IsSilent o t row →
    sum_by (part o d t) rows ≡ sum_by (part o d t) (filter (λ r. is_lt (row_cmp r row)) rows) + sum_by (part o d t) (filter (λ r. is_gt (row_cmp r row)) rows)
parted o d t row [] h = omega arith
parted o d t row (r ∷ rs) h =
    let P : ℕ = sum_by (part o d t) (filter (λ r. is_lt (row_cmp r row)) rs) in
    let Q : ℕ = sum_by (part o d t) (filter (λ r. is_gt (row_cmp r row)) rs) in
    let rest : sum_by (part o d t) rs ≡ sum_by (part o d t) (filter (λ r. is_lt (row_cmp r row)) rs) + sum_by (part o d t) (filter (λ r. is_gt (row_cmp r row)) rs) = parted o d t row rs h in
    let lows : List DemandRow = filter (λ r. is_lt (row_cmp r row)) rs in
    let highs : List DemandRow = filter (λ r. is_gt (row_cmp r row)) rs in
    let f : DemandRow → ℕ = part o d t in
    elim (row_cmp r row) as (λ (z : Ordering). row_cmp r row ≡ z → sum_by (part o d t) (r ∷ rs)
    ≡ sum_by (part o d t) (cond (is_lt z) (r ∷ filter (λ r. is_lt (row_cmp r row)) rs) (filter (λ r. is_lt (row_cmp r row)) rs))
    + sum_by (part o d t) (cond (is_gt z) (r ∷ filter (λ r. is_gt (row_cmp r row)) rs) (filter (λ r. is_gt (row_cmp r row)) rs))) [
      | Less ↦ λ e.
          let go : f r + sum_by f rs ≡ (f r + P) + Q = omega (rest, arith) in
          sum_by-cons f r rs ∙ (go ∙ sym (ap (λ z. z + Q) (sum_by-cons f r lows)))
      | Equal ↦ λ e.
          let go : f r + sum_by f rs ≡ P + Q = omega (rest, silent_part o d t r (same_silence o d t r row e h), arith) in
          sum_by-cons f r rs ∙ go
      | Greater ↦ λ e.
          let go : f r + sum_by f rs ≡ P + (f r + Q) = omega (rest, arith) in
          sum_by-cons f r rs ∙ (go ∙ sym (ap (λ z. P + z) (sum_by-cons f r highs)))
    ] refl

shown_silent : (o d t : ℕ) (row : DemandRow) → IsSilent o t row → sum_by (part o d t) (row_if_any row) ≡ 0
shown_silent o d t row h = elim (cases_Bool (row.amount.0 == 0)) [
  | inl a ↦ rw a refl
  | inr a ↦ rw a (omega (silent_part o d t row h, arith))
]

-- what is produced elsewhere, or by the end of an earlier slot, stays
pub by_end_stays : (rows : List DemandRow) (row : DemandRow) (o d t : ℕ) → IsSilent o t row → by_end (edited_rows rows row) o d t ≡ by_end rows o d t
unfolding edited_rows before behind
by_end_stays rows row o d t h =
    let f : DemandRow → ℕ = part o d t in
    let p : List DemandRow = filter (λ r. is_lt (row_cmp r row)) rows in
    let q : List DemandRow = filter (λ r. is_gt (row_cmp r row)) rows in
    omega (sum_by-append f p (row_if_any row ++ q), sum_by-append f (row_if_any row) q, shown_silent o d t row h, parted o d t row rows h, arith)
