use Rattle.std.proofs.Common.{ℕ, ◌+◌, ◌-◌, ◌*◌, ◌/◌, ◌≤◌, refl, sym, ap, arith, ◌∙◌}
use Rattle.ltm_sending.proofs.Past.{long_enough, earlier_none, found_past, past_here, past_part}
use Rattle.ltm_totals.proofs.totals.Totals.ago.Goals as goal

pub returns-then-end-slots-clause-total : goal.returns-then-end-slots-clause-total
returns-then-end-slots-clause-total c = λ f time same is.
    sym (earlier_none f c.args.step.0 c.args.slot c.args.delay.slots c.args.delay.rest time is.slots is.rest (omega (arith, c.if-end-slots.true, c.from-end.ensures, c.from-slots.ensures)))

pub returns-then-delay-eq0-clause-total : goal.returns-then-delay-eq0-clause-total
returns-then-delay-eq0-clause-total c = λ f time same is.
    let one : 1 ≤ c.args.delay.slots = (long_enough c.args.delay.slots c.args.step.0 c.args.delay.rest c.requires.rest c.requires.long).0 in
    found_past f c.args.step.0 c.args.slot c.args.delay.slots c.args.delay.rest time (c.from-end.result + 1 - c.from-slots.result) c.args.delay.rest c.at-before.result is.slots
    (omega (arith, c.if-end-slots.false, c.from-end.ensures, c.from-slots.ensures)) (omega (arith, c.from-end.ensures, c.from-slots.ensures)) refl
    (past_here f c.args.step.0 (c.from-end.result + 1 - c.from-slots.result) c.args.delay.rest c.at-before.result c.requires.rest (omega (arith, c.if-delay-eq0.true))
    (c.at-before.ensures.total ∙ same (c.from-end.result + 1 - c.from-slots.result) (omega (arith, one, c.from-end.ensures, c.from-slots.ensures))))

pub returns-clause-total : goal.returns-clause-total
returns-clause-total c = λ f time same is.
    let two : 2 ≤ c.args.delay.slots = (long_enough c.args.delay.slots c.args.step.0 c.args.delay.rest c.requires.rest c.requires.long).1 (omega (arith, c.if-delay-eq0.false)) in
    let boundary : ℕ = c.from-end.result + 1 - c.from-slots.result in
    found_past f c.args.step.0 c.args.slot c.args.delay.slots c.args.delay.rest time (c.from-end.result + 1 - c.from-slots.result) c.args.delay.rest (c.at-before.result + c.part_of.result) is.slots
    (omega (arith, c.if-end-slots.false, c.from-end.ensures, c.from-slots.ensures)) (omega (arith, c.from-end.ensures, c.from-slots.ensures)) refl
    (past_part f c.args.step.0 (c.from-end.result + 1 - c.from-slots.result) c.args.delay.rest c.at-before.result c.at-after.result c.part_of.result (c.at-before.result + c.part_of.result) c.requires.rest
    (c.at-before.ensures.total ∙ same (c.from-end.result + 1 - c.from-slots.result) (omega (arith, two, c.from-end.ensures, c.from-slots.ensures)))
    (c.at-after.ensures.total ∙ same (c.from-end.result + 1 - c.from-slots.result + 1) (omega (arith, two, c.from-end.ensures, c.from-slots.ensures, c.if-end-slots.false)))
    (c.part_of.ensures.part ∙ ap (λ (z : ℕ). z * c.args.delay.rest / c.args.step.0) c.saturating_sub.ensures) refl)
