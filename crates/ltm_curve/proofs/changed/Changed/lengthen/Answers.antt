use Rattle.std.proofs.Common.{arith, sym, ◌∙◌}
use Rattle.ltm_curve.proofs.Cells.{longer_count, longer_between, longer_cells, not_changed}
use Rattle.ltm_curve.proofs.changed.Changed.lengthen.Goals as goal

pub invariant_of-self-clause-some_boundary : goal.invariant_of-self-clause-some_boundary
invariant_of-self-clause-some_boundary c = omega (arith, c.lengthen.ensures.rows)

pub invariant_of-self-clause-counted : goal.invariant_of-self-clause-counted
invariant_of-self-clause-counted c =
    c.args.self.now.counted
    ∙ sym (longer_count c.args.self.now.marks c.lengthen.new.self c.lengthen.ensures.width (omega (arith, c.lengthen.ensures.rows, c.args.self.now.some_boundary)) c.lengthen.ensures.marks c.lengthen.ensures.new)

pub invariant_of-self-clause-outside : goal.invariant_of-self-clause-outside
invariant_of-self-clause-outside c =
    longer_between c.args.self.now.marks c.lengthen.new.self c.args.self.now.from c.args.self.now.to c.lengthen.ensures.width (omega (arith, c.lengthen.ensures.rows, c.requires.slots, c.args.self.now.some_boundary)) c.lengthen.ensures.marks c.lengthen.ensures.new
    c.args.self.now.outside

pub returns-clause-cells : goal.returns-clause-cells
returns-clause-cells c = λ g k.
    longer_cells c.args.self.now _ g k c.lengthen.ensures.width (omega (arith, c.lengthen.ensures.rows, c.requires.slots, c.args.self.now.some_boundary)) (c.lengthen.ensures.marks g k) (λ x l. c.lengthen.ensures.new g k x l)

pub returns-clause-none : goal.returns-clause-none
returns-clause-none c = λ g k x l. not_changed _ g k (λ y m. c.lengthen.ensures.new g k x (omega (arith, l, c.args.self.now.some_boundary)))
