use Rattle.std.proofs.Common.{List, sym, subst, ◌∙◌, ◌+◌, length-set, Some}
use Rattle.std.specs.Prelude.{Option}
use Rattle.ltm_workers.specs.declared.hands.Hand.{Hand}
use Rattle.ltm_workers.proofs.Turning.{LaidDown, laid_more, all_empty, one_more_back, all_back}
use Rattle.ltm_workers.proofs.driving.lay_all_down.Goals as goal

pub loop-worker-preserved : goal.loop-worker-preserved
loop-worker-preserved c =
    let P : List (Option Hand) → Type 0 = λ z. LaidDown c.args.core.now c.args.hands (c.loop-worker.worker + 1) c.lay_down.new.core z in
    record {
      laid = subst P (sym c.pick-hand.ensures.left)
          (laid_more c.args.core.now c.loop-worker.core c.lay_down.new.core c.args.hands c.loop-worker.hands c.loop-worker.worker c.pick-hand.result c.loop-worker.invariant.laid c.loop-worker-test.true c.pick-hand.ensures.taken c.lay_down.ensures);
      four = length-set c.loop-worker.scratches c.loop-worker.worker (Some c.lay_down.result) ∙ c.loop-worker.invariant.four;
      full = one_more_back c.loop-worker.scratches c.loop-worker.worker c.lay_down.result c.loop-worker.invariant.four c.loop-worker-test.true c.loop-worker.invariant.full;
    }

pub let_go-requires : goal.let_go-requires
let_go-requires c = all_empty c.loop-worker.hands c.loop-worker.worker c.loop-worker.invariant.laid.kept.four c.loop-worker-test.false c.loop-worker.invariant.laid.empty

pub returns-clause-full : goal.returns-clause-full
returns-clause-full c = all_back c.loop-worker.scratches c.loop-worker.worker c.loop-worker.invariant.four c.loop-worker-test.false c.loop-worker.invariant.full
