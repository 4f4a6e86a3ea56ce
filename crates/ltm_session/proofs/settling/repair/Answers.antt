use Rattle.std.proofs.Common.{ap}
use Rattle.ltm_core.specs.Cores.{CoreData}
use Rattle.ltm_session.proofs.Counted.{work_settles_none}
use Rattle.ltm_session.proofs.settling.repair.Goals as goal

pub returns : goal.returns
returns c = record {
  log = ap (λ (x : CoreData). x.log) c.drain.ensures.works.keeps;
  shown = ap (λ (x : CoreData). x.shown) c.drain.ensures.works.keeps;
  rest = c.drain.ensures.rest;
  counts = c.drain.ensures.exact;
  settles = work_settles_none c.runs_of_cores.ensures _ _ _ _ c.drain.ensures.works;
}
