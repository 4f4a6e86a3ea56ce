use Rattle.std.proofs.Common.{◌≡◌, ◌+◌, ◌-◌, vec_len, length, slice_index, refl, arith, sym, ap, ◌∙◌, inl, inr}
use Rattle.std.proofs.lemmas.Bool.{cases_lt}
use Rattle.std.proofs.lemmas.List.{get_or_past}
use Rattle.ltm_demand.proofs.production.Production.add_row.Goals as goal

pub returns-clause-row : goal.returns-clause-row
returns-clause-row c = λ column below.
    let end = vec_len c.args.units.now in
    let row = c.whole_row.result.now in
    let mid = c.extend_from_slice.new.self in
    let k = end + column in
    let back : k - end ≡ column = omega arith in
    let long : vec_len mid ≡ end + length row = c.in_ok-extend_from_slice.ensures.len in
    elim (cases_lt column (length row)) [
      | inl inside ↦
          c.in_ok-resize.ensures.by_index.0 k 0 (omega (arith, c.len.ensures)) (omega (arith, long))
          ∙ (c.in_ok-extend_from_slice.ensures.by_index.1 k 0 refl (omega arith) ∙ (ap (slice_index row) back ∙ c.whole_row.ensures.row column))
      | inr past ↦
          c.in_ok-resize.ensures.by_index.1 k 0 refl (omega (arith, long)) (omega (arith, c.len.ensures))
          ∙ (sym (get_or_past row column 0 past) ∙ c.whole_row.ensures.row column)
    ]
