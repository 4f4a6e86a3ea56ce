use Rattle.std.proofs.Common.{refl}
use Rattle.ltm_working.specs.Desks.{desk_at}
use Rattle.ltm_working.proofs.Beginnings.{cleared_ready, cleared_none}
use Rattle.ltm_working.proofs.table.Table.clear_changed.Goals as goal

pub returns-clause-ready : goal.returns-clause-ready
returns-clause-ready c = λ s ready. cleared_ready s c.args.self.now _ ready c.clear.ensures.shape

pub returns-clause-desk : goal.returns-clause-desk
unfolding desk_at
returns-clause-desk c = λ s. refl

pub returns-clause-none : goal.returns-clause-none
returns-clause-none c = λ s g k. cleared_none s _ g k c.clear.ensures.none
