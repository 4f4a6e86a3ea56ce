use Rattle.std.proofs.Common.{◌∙◌, ◌-◌, ap, arith, sym}
use Rattle.ltm_curve.specs.TotalCurves.{total_slots, total_at}
use Rattle.ltm_times.proofs.Moments.{no_moment, moment_at_start, moment_in_slot}
use Rattle.ltm_times.proofs.boundaries.moment_of.Goals as goal

pub returns-then-total-count-clause-time : goal.returns-then-total-count-clause-time
returns-then-total-count-clause-time c =
    sym (no_moment (total_at c.args.curves.now c.args.group) (total_slots c.args.curves.now) c.args.step.0 c.args.count (omega arith) c.requires.rises
    (omega (arith, c.total.ensures.total, ap (total_at c.args.curves.now c.args.group) c.slots.ensures)))

pub returns-then-boundary-eq0-clause-time : goal.returns-then-boundary-eq0-clause-time
returns-then-boundary-eq0-clause-time c =
    sym (moment_at_start (total_at c.args.curves.now c.args.group) (total_slots c.args.curves.now) c.args.step.0 c.args.count (omega arith)
    (omega (arith, c.first_boundary-boundary.ensures.reached, ap (total_at c.args.curves.now c.args.group) c.if-boundary-eq0.true)))

pub returns-clause-time : goal.returns-clause-time
returns-clause-time c =
    let e = c.wait_in_slot.ensures in
    sym (moment_in_slot (total_at c.args.curves.now c.args.group) (total_slots c.args.curves.now) c.args.step.0 c.args.count
    c.from.result c.first_boundary-boundary.result c.total-from.result c.total-to.result c.wait_in_slot.result
    (omega arith) c.requires.rises (omega arith) c.first_boundary-boundary.ensures.within
    (c.total-from.ensures.total ∙ ap (total_at c.args.curves.now c.args.group) (sym c.from.ensures))
    c.total-to.ensures.total
    (omega (arith, c.total-from.ensures.total, c.first_boundary-boundary.ensures.before (c.first_boundary-boundary.result - 1) (omega arith)))
    (omega (arith, c.total-to.ensures.total, c.first_boundary-boundary.ensures.reached))
    (record { some = e.some; within = e.within; reached = e.reached; before = e.before }))
