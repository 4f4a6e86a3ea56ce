use Rattle.std.proofs.Common.{◌<◌, ◌^◌, arith}
use Rattle.ltm_workers.proofs.Working.{works_one, works_rest, never_waits}
use Rattle.ltm_workers.proofs.draining.work_once.Goals as goal

pub returns-in-Done : goal.returns-in-Done
returns-in-Done c = works_one c.calls_are_events.ensures c.runs_of_cores.ensures c.args.core.now c.recompute.new.self c.in-Done._pair c.args.steps.now c.tick.new.self c.facts.ensures.core c.requires c.in-Done.ensures.answer c.tick.ensures

pub unreachable-requires : goal.unreachable-requires
unreachable-requires c = never_waits c.args.core.now _ c.requires c.in-NotYet.ensures.answer.0

pub returns-in-Rest : goal.returns-in-Rest
returns-in-Rest c =
    let small : c.args.steps.now < 2 ^ 64 = omega (c.count-taken.ensures, arith) in
    works_rest c.calls_are_events.ensures c.args.core.now c.recompute.new.self c.args.steps.now c.facts.ensures.core small c.in-Rest.ensures.answer
