use Rattle.ltm_core.specs.Cores.{undone_of}
use Rattle.ltm_workers.specs.Draining.{Works}
use Rattle.ltm_workers.proofs.draining.drain.Given as goal

abbrev pub invariant-loop : goal.invariant-loop
invariant-loop l = Works l.fn.core l.fn.steps l.core l.steps

abbrev pub decreases-loop : goal.decreases-loop
decreases-loop l = undone_of l.core
