use Rattle.std.proofs.Common.{arith}
use Rattle.ltm_setting.specs.Setting.{setting_of}
use Rattle.ltm_used.proofs.Finding.{closed_by, count_within}
use Rattle.ltm_used.proofs.closing.close.Goals as goal

pub returns-then-place-count-clause-closed : goal.returns-then-place-count-clause-closed
returns-then-place-count-clause-closed c =
    let over = c.if-place-count.true in
    let count = c.count.ensures.count in
    closed_by (setting_of c.args.scenario.now) c.args.goes.now c.loop-place.found c.destination_count-destinations.result c.destination_count-destinations.ensures.value
    (λ j l. c.loop-place.invariant.done j (omega (arith, over, count, l)) l)

pub returns-clause-closed : goal.returns-clause-closed
returns-clause-closed c =
    let over = c.loop-place-test.false in
    let size = c.loop-place.invariant.grows.size in
    let end = c.size-place-end.ensures in
    let most = count_within c.loop-place.found in
    closed_by (setting_of c.args.scenario.now) c.args.goes.now c.loop-place.found c.destination_count-destinations.result c.destination_count-destinations.ensures.value
    (λ j l. c.loop-place.invariant.done j (omega (arith, over, size, end, most, l)) l)
