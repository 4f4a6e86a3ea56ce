use Rattle.std.proofs.Common.{ap, arith, inl, inr, sym, ◌+◌, ◌-◌, ◌≤◌, ◌∙◌}
use Rattle.std.proofs.Math.Nat.{mul-le-mul_right}
use Rattle.ltm_units.specs.Bounds.{most_marked}
use Rattle.ltm_marks.specs.Marks.{rows_of, width_of}
use Rattle.ltm_curve.proofs.Cells.{marked_small, one_more, of_cell, in_cells, same_cells}
use Rattle.ltm_curve.proofs.changed.Changed.put.Goals as goal

pub overflow_add-self : goal.overflow_add-self
overflow_add-self c =
    let few : rows_of c.args.self.now.marks ≤ most_marked = omega (arith, c.rows-rows.ensures.value, c.rows-rows.ensures.small) in
    let narrow : width_of c.args.self.now.marks ≤ most_marked = omega (arith, c.width-width.ensures.value, c.width-width.ensures.small) in
    omega (arith, c.args.self.now.counted, marked_small c.args.self.now.marks, mul-le-mul_right (width_of c.args.self.now.marks) few)

pub invariant_of-self-clause-some_boundary : goal.invariant_of-self-clause-some_boundary
invariant_of-self-clause-some_boundary c = omega (arith, c.mark.ensures.size.rows, c.args.self.now.some_boundary)

pub invariant_of-self-clause-counted : goal.invariant_of-self-clause-counted
invariant_of-self-clause-counted c =
    ap (λ z. z + 1) c.args.self.now.counted
    ∙ sym (one_more c.args.self.now.marks c.mark.new.self c.args.group c.args.boundary c.mark.ensures c.requires.is_group (omega (arith, c.requires.is_boundary, c.args.self.now.some_boundary)) (sym (of_cell c.args.self.now c.args.group c.args.boundary c.requires) ∙ (sym c.has.ensures ∙ c.if-not-has.true)))

pub returns-then-not-has : goal.returns-then-not-has
returns-then-not-has c = record {
  shape = record { same_groups = c.mark.ensures.size.width; same_slots = ap (λ z. z - 1) c.mark.ensures.size.rows };
  here = in_cells _ c.args.group c.args.boundary (omega (arith, c.requires.is_group, c.mark.ensures.size.width)) (omega (arith, c.requires.is_boundary, c.mark.ensures.size.rows, c.args.self.now.some_boundary)) ∙ c.mark.ensures.here;
  others = λ g k cell other.
      same_cells c.args.self.now _ g k c.mark.ensures.size.width c.mark.ensures.size.rows
      (c.mark.ensures.others g k cell.is_group (omega (arith, cell.is_boundary, c.args.self.now.some_boundary)) (λ e f. elim other [ inl ne ↦ ne (sym e) | inr ne ↦ ne (sym f) ]));
}
