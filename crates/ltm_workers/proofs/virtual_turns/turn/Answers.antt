use Rattle.std.proofs.Common.{◌≡◌, ◌<◌, arith}
use Rattle.ltm_workers.specs.Driving.{worker_of}
use Rattle.ltm_workers.proofs.Turning.{put_back, turn_kept, turn_full, turn_told}
use Rattle.ltm_workers.proofs.virtual_turns.turn.Goals as goal

pub returns-clause-act : goal.returns-clause-act
returns-clause-act c =
    let at : c.from-worker.result ≡ worker_of c.args.byte = c.from-worker.ensures in
    turn_told c.args.byte c.from-worker.result c.args.core.now c.act_with-act.new.core c.args.hands.now c.put.new.hands c.pick-hand.result c.act_with-act.result.1 c.act_with-act.result.0 at c.pick-hand.ensures.taken
    (put_back c.args.hands.now c.pick-hand.new.hands c.put.new.hands c.from-worker.result c.act_with-act.result.1 c.pick-hand.ensures.left c.put.ensures) c.act_with-act.ensures.act

pub returns-clause-kept : goal.returns-clause-kept
returns-clause-kept c =
    let at : c.from-worker.result ≡ worker_of c.args.byte = c.from-worker.ensures in
    let below : c.from-worker.result < 4 = omega (at, arith) in
    turn_kept c.args.core.now c.act_with-act.new.core c.args.hands.now c.put.new.hands c.from-worker.result c.pick-hand.result c.act_with-act.result.1 c.requires.kept c.pick-hand.ensures.taken below
    c.act_with-act.ensures.spares c.act_with-act.ensures.next
    (put_back c.args.hands.now c.pick-hand.new.hands c.put.new.hands c.from-worker.result c.act_with-act.result.1 c.pick-hand.ensures.left c.put.ensures)

pub returns-clause-full : goal.returns-clause-full
returns-clause-full c =
    turn_full c.args.hands.now c.put.new.hands c.from-worker.result c.act_with-act.result.1 c.requires.full
    (put_back c.args.hands.now c.pick-hand.new.hands c.put.new.hands c.from-worker.result c.act_with-act.result.1 c.pick-hand.ensures.left c.put.ensures)
