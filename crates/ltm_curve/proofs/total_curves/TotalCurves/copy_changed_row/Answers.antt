use Rattle.std.proofs.Common.{◌≡◌, ℕ, ◌+◌, true, inl, inr, arith, ap, sym, ◌∙◌}
use Rattle.std.proofs.lemmas.Bool.{cases_Bool, cases_eq, cases_lt}
use Rattle.ltm_curve.specs.Table.{groups_of, total_of}
use Rattle.ltm_curve.specs.Cells.{is_changed}
use Rattle.ltm_curve.specs.TotalCurves.{total_at, IsTotal}
use Rattle.ltm_curve.specs.declared.total_curves.TotalCurves.{TotalCurves}
use Rattle.ltm_curve.proofs.total_curves.TotalCurves.copy_changed_row.Goals as goal

pub returns : goal.returns
returns c =
    let t : TotalCurves = c.args.self.now in
    let m : TotalCurves = c.copy_changed_narrow.new.self in
    let n : TotalCurves = c.copy_total.new.self in
    let k : ℕ = c.args.boundary in
    let groups : m.narrow + 1 ≡ groups_of c.args.curves.now = c.copy_changed_narrow.ensures.shape.same_groups in
    record {
      shape = record {
        same_groups = c.copy_total.ensures.shape.same_groups ∙ c.copy_changed_narrow.ensures.shape.same_groups;
        same_slots = c.copy_total.ensures.shape.same_slots ∙ c.copy_changed_narrow.ensures.shape.same_slots;
      };
      totals = λ g j x y either.
          let old_is : IsTotal t g j = record { is_group = omega (arith, x, c.requires.but.shape.same_groups); is_boundary = omega (arith, y, c.requires.but.shape.same_slots) } in
          let is : IsTotal m g j = record { is_group = omega (arith, x, groups); is_boundary = omega (arith, y, c.copy_changed_narrow.ensures.shape.same_slots) } in
          elim (cases_eq j k) [
            | inl e ↦ elim (cases_lt g m.narrow) [
              | inl low ↦
                  c.copy_total.ensures.others g j is (inl (λ a. omega (arith, a, low)))
                  ∙ elim (cases_Bool (is_changed c.args.changed.now g j)) [
                    | inl on ↦
                        let marked : is_changed c.args.changed.now g k ≡ true = ap (is_changed c.args.changed.now g) (sym e) ∙ on in
                        ap (total_at m g) e ∙ (c.copy_changed_narrow.ensures.copied g (omega (arith, low, groups)) marked ∙ ap (total_of c.args.curves.now g) (sym e))
                    | inr off ↦ elim (c.copy_changed_narrow.ensures.others g j old_is) [ inl now ↦ now | inr stays ↦ stays ∙ c.requires.but.totals g j x y (inl off) ]
                  ]
              | inr high ↦
                  let last : g ≡ m.narrow = omega (arith, x, high, groups) in
                  ap (λ (h : ℕ). total_at n h j) last ∙ (ap (total_at n m.narrow) e ∙ (c.copy_total.ensures.here ∙ (ap (total_of c.args.curves.now m.narrow) (sym e) ∙ ap (λ (h : ℕ). total_of c.args.curves.now h j) (sym last))))
            ]
            | inr apart ↦
                c.copy_total.ensures.others g j is (inr apart)
                ∙ elim (c.copy_changed_narrow.ensures.others g j old_is) [
                  | inl now ↦ now
                  | inr stays ↦ stays ∙ c.requires.but.totals g j x y (elim either [ inl off ↦ inl off | inr before ↦ inr (omega (arith, before, apart)) ])
                ]
          ];
    }
