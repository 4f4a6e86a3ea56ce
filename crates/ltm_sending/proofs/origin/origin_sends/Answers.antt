use Rattle.std.proofs.Common.{◌≡◌, ◌<◌, arith, ap, get_or-set_same, sym, ◌-◌, ◌∙◌, slice_index, slice_set}
use Rattle.ltm_curve.specs.Table.{counts_of, destinations_of}
use Rattle.ltm_setting.specs.Setting.{setting_of}
use Rattle.ltm_sending.proofs.Origins.{sends_nothing, sends_one, sends_rest, behind}
use Rattle.ltm_sending.proofs.Waiting.{is_one}
use Rattle.ltm_sending.proofs.origin.origin_sends.Goals as goal

pub returns-then-queue : goal.returns-then-queue
returns-then-queue g c d x =
    c.send_none.ensures d (omega arith)
    ∙ sym (sends_nothing (setting_of c.args.scenario.now) (counts_of c.args.curves.now) c.args.node.0 c.args.slot _ _ _ d c.queue_at-queue.ensures c.if-queue.true x)

pub returns-then-is_alone : goal.returns-then-is_alone
returns-then-is_alone g c d x =
    let one : destinations_of c.args.curves.now ≡ 1 = is_one c.is_alone.result (destinations_of c.args.curves.now) c.if-is_alone.true c.is_alone.ensures in
    let first : d ≡ 0 = omega (arith, one, c.requires.ready.shape.same_destinations) in
    let rest = c.queue_at-queue.result.goal - c.queue_at-queue.result.left in
    ap (slice_index (slice_set c.args.into.now 0 rest)) first
    ∙ (get_or-set_same c.args.into.now 0 rest 0 (omega (arith, one, c.requires.ready.shape.same_destinations))
    ∙ sym (sends_one (setting_of c.args.scenario.now) (counts_of c.args.curves.now) c.args.node.0 c.args.slot _ _ _ d c.queue_at-queue.ensures (omega (arith, one, c.requires.ready.shape.same_destinations)) x))

pub send_queue-requires-clause-behind : goal.send_queue-requires-clause-behind
send_queue-requires-clause-behind g c d x =
    let inside : d < destinations_of c.args.curves.now = omega (arith, c.requires.ready.shape.same_destinations) in
    behind (setting_of c.args.scenario.now) (counts_of c.args.curves.now) c.args.node.0 c.args.slot _ _ _ _ d _ c.queue_at-queue.ensures c.dep_of.ensures.group (c.row-gone.ensures.counts d inside) x

pub returns : goal.returns
returns g c d x =
    let inside : d < destinations_of c.args.curves.now = omega (arith, c.requires.ready.shape.same_destinations) in
    sends_rest (setting_of c.args.scenario.now) (counts_of c.args.curves.now) c.args.node.0 c.args.slot _ _ _ _ d _ _ c.queue_at-queue.ensures c.dep_of.ensures.group (c.row-gone.ensures.counts d inside) (c.send_queue.ensures d x)
