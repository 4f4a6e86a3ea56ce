use Rattle.ltm_core.specs.Log.{version_now}
use Rattle.ltm_try_command.proofs.Repaired.{repairs, still_accepted, version_shown}
use Rattle.ltm_try_command.proofs.repairing.repair.Goals as goal

pub accept-requires-clause-accepted : goal.accept-requires-clause-accepted
accept-requires-clause-accepted c = still_accepted c.args.core.now c.args.batch c.facts.ensures.core c.requires.accepted

pub settle-recomputed-requires : goal.settle-recomputed-requires
settle-recomputed-requires c = version_shown c.work.new.core c.publish.new.core (version_now c.work.new.core.log) c.publish.ensures

pub returns : goal.returns
returns c =
    repairs c.logs_tell_all.ensures c.settle_counts_are_exact.ensures c.args.core.now c.accept.new.core c.work.new.core c.publish.new.core c.settle-recomputed.new.core c.args.batch c.in_ok-solved.solved (version_now c.work.new.core.log)
    c.settle-recomputed.result c.pairs-pairs.result c.facts.ensures.core c.requires.opening c.in_ok-accept.ensures c.in_ok-solved.ensures c.facts-2.ensures.core c.pairs-pairs.ensures c.pairs-pairs.type_inv c.publish.ensures
    c.shown-shown.ensures.is_shown c.settle-recomputed.ensures
