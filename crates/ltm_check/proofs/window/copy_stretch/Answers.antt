use Rattle.std.proofs.Common.{arith, refl}
use Rattle.ltm_check.proofs.Copying.{next_within, one_more}
use Rattle.ltm_check.proofs.window.copy_stretch.Goals as goal

pub overflow_mul-start : goal.overflow_mul-start
overflow_mul-start c =
    let within = c.requires.places c.args.group c.args.destination c.args.from c.requires.order (omega arith) c.requires.count in
    rw (c.destinations.ensures.value, c.slots.ensures) (omega (arith, within))

pub overflow_add-counts : goal.overflow_add-counts
overflow_add-counts c =
    let next = next_within c.args.curves.now c.args.first c.args.group c.args.destination c.args.from c.loop-step.step _ _ c.requires.places c.requires.order c.requires.count c.loop-step-test.true (omega (arith, c.slots-2.ensures, c.min-many.ensures, c.loop-step.auto.step-end)) in
    rw (c.destinations.ensures.value, c.slots.ensures) (omega (arith, next.1, c.loop-step.invariant.0.long, c.loop-step.auto.counts))

pub offset_bounds-counts-start : goal.offset_bounds-counts-start
offset_bounds-counts-start c =
    let next = next_within c.args.curves.now c.args.first c.args.group c.args.destination c.args.from c.loop-step.step _ _ c.requires.places c.requires.order c.requires.count c.loop-step-test.true (omega (arith, c.slots-2.ensures, c.min-many.ensures, c.loop-step.auto.step-end)) in
    rw (c.destinations.ensures.value, c.slots.ensures) (omega (arith, next.1, c.loop-step.invariant.0.long, c.loop-step.auto.counts))

pub bounds-counts-start : goal.bounds-counts-start
bounds-counts-start c =
    let next = next_within c.args.curves.now c.args.first c.args.group c.args.destination c.args.from c.loop-step.step _ _ c.requires.places c.requires.order c.requires.count c.loop-step-test.true (omega (arith, c.slots-2.ensures, c.min-many.ensures, c.loop-step.auto.step-end)) in
    rw (c.destinations.ensures.value, c.slots.ensures) (omega (arith, next.1, c.loop-step.invariant.0.long))

pub loop-step-preserved : goal.loop-step-preserved
loop-step-preserved c =
    let next = next_within c.args.curves.now c.args.first c.args.group c.args.destination c.args.from c.loop-step.step _ _ c.requires.places c.requires.order c.requires.count c.loop-step-test.true (omega (arith, c.slots-2.ensures, c.min-many.ensures, c.loop-step.auto.step-end)) in
    rw (c.destinations.ensures.value, c.slots.ensures)
    (one_more c.args.curves.now c.args.first c.args.group c.args.destination c.args.from c.loop-step.step c.get.result _ c.args.counts.now c.loop-step.counts
    refl (omega (arith, next.1, c.loop-step.invariant.0.long)) c.get.ensures.count c.requires.order next.0 c.loop-step.invariant.0 c.loop-step.invariant.1)
