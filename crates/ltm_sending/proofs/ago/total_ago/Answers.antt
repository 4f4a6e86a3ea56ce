use Rattle.std.proofs.Common.{◌+◌, ◌-◌, ◌≤◌, refl, sym, arith}
use Rattle.ltm_curve.specs.Table.{total_of}
use Rattle.ltm_sending.proofs.Past.{long_enough, earlier_none, found_past, past_here, past_part}
use Rattle.ltm_sending.proofs.ago.total_ago.Goals as goal

pub returns-then-end-slots-clause-total : goal.returns-then-end-slots-clause-total
returns-then-end-slots-clause-total g c = λ time is.
    sym (earlier_none (total_of c.args.curves.now c.args.group) c.args.step.0 c.args.slot c.args.delay.slots c.args.delay.rest time is.slots is.rest (omega (arith, c.if-end-slots.true, c.from-end.ensures, c.from-slots.ensures)))

pub returns-then-delay-eq0-clause-total : goal.returns-then-delay-eq0-clause-total
returns-then-delay-eq0-clause-total g c = λ time is.
    found_past (total_of c.args.curves.now c.args.group) c.args.step.0 c.args.slot c.args.delay.slots c.args.delay.rest time (c.from-end.result + 1 - c.from-slots.result) c.args.delay.rest c.total-before.result is.slots
    (omega (arith, c.if-end-slots.false, c.from-end.ensures, c.from-slots.ensures)) (omega (arith, c.from-end.ensures, c.from-slots.ensures)) refl
    (past_here (total_of c.args.curves.now c.args.group) c.args.step.0 (c.from-end.result + 1 - c.from-slots.result) c.args.delay.rest c.total-before.result c.requires.rest (omega (arith, c.if-delay-eq0.true)) c.total-before.ensures.total)

pub overflow_sub-after : goal.overflow_sub-after
overflow_sub-after g c =
    let two : 2 ≤ c.args.delay.slots = (long_enough c.args.delay.slots c.args.step.0 c.args.delay.rest c.requires.rest c.requires.long).1 (omega (arith, c.if-delay-eq0.false)) in
    omega (
      arith,
      c.requires.rises (c.from-end.result + 1 - c.from-slots.result) (omega (arith, two, c.from-end.ensures, c.from-slots.ensures, c.if-end-slots.false)),
      c.total-before.ensures.total,
      c.total-after.ensures.total,
    )

pub returns-clause-total : goal.returns-clause-total
returns-clause-total g c = λ time is.
    found_past (total_of c.args.curves.now c.args.group) c.args.step.0 c.args.slot c.args.delay.slots c.args.delay.rest time (c.from-end.result + 1 - c.from-slots.result) c.args.delay.rest (c.total-before.result + c.interpolated_part-part.result) is.slots
    (omega (arith, c.if-end-slots.false, c.from-end.ensures, c.from-slots.ensures)) (omega (arith, c.from-end.ensures, c.from-slots.ensures)) refl
    (past_part (total_of c.args.curves.now c.args.group) c.args.step.0 (c.from-end.result + 1 - c.from-slots.result) c.args.delay.rest c.total-before.result c.total-after.result c.interpolated_part-part.result (c.total-before.result + c.interpolated_part-part.result)
    c.requires.rest c.total-before.ensures.total c.total-after.ensures.total c.interpolated_part-part.ensures.part refl)
