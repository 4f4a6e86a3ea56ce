use Rattle.ltm_working.specs.Desks.{desk_at}
use Rattle.std.proofs.Common.{refl}
use Rattle.ltm_working.proofs.table.Table.curves.Goals as goal

pub returns-clause-counts : goal.returns-clause-counts
unfolding desk_at
returns-clause-counts c = λ s. refl
