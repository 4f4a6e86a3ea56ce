use Rattle.std.proofs.Common.{◌<◌, ◌^◌, arith}
use Rattle.ltm_workers.proofs.Working.{works_none, works_more, counts_left, counts_differences}
use Rattle.ltm_workers.proofs.draining.drain.Goals as goal

pub loop-init : goal.loop-init
loop-init c =
    let small : c.args.steps.now < 2 ^ 64 = omega (c.count-taken.ensures, arith) in
    works_none c.args.core.now c.args.steps.now c.facts.ensures.core c.requires small

pub loop-preserved : goal.loop-preserved
loop-preserved c = works_more c.args.core.now c.loop.core c.work_once.new.core c.args.steps.now c.loop.steps c.work_once.new.steps c.loop.invariant c.loop-test.ensures.0

pub returns-clause-works : goal.returns-clause-works
returns-clause-works c = works_more c.args.core.now c.loop.core c.work_once.new.core c.args.steps.now c.loop.steps c.work_once.new.steps c.loop.invariant c.loop-test.ensures.0

pub returns-clause-count : goal.returns-clause-count
returns-clause-count c =
    counts_left c.runs_of_cores.ensures c.args.core.now c.work_once.new.core c.args.steps.now c.work_once.new.steps
    (works_more c.args.core.now c.loop.core c.work_once.new.core c.args.steps.now c.loop.steps c.work_once.new.steps c.loop.invariant c.loop-test.ensures.0) c.loop-test.ensures.1

pub returns-clause-exact : goal.returns-clause-exact
returns-clause-exact c =
    counts_differences c.args.core.now c.work_once.new.core c.facts.ensures
    (counts_left c.runs_of_cores.ensures c.args.core.now c.work_once.new.core c.args.steps.now c.work_once.new.steps
    (works_more c.args.core.now c.loop.core c.work_once.new.core c.args.steps.now c.loop.steps c.work_once.new.steps c.loop.invariant c.loop-test.ensures.0) c.loop-test.ensures.1)
