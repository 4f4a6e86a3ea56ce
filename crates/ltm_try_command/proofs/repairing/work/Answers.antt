use Rattle.ltm_try_command.proofs.Repaired.{works_to_rest}
use Rattle.ltm_try_command.proofs.repairing.work.Goals as goal

pub returns : goal.returns
returns c =
    works_to_rest c.args.core.now c.drive-driven.new.core c.drain.new.core c.new-steps.result c.drive-driven.new.steps c.drain.new.steps c.count.result c.new-steps.ensures c.count.ensures c.drive-driven.ensures.works c.drain.ensures.works c.drain.ensures.rest
