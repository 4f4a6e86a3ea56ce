use Rattle.std.proofs.Common.{◌≡◌, length}
use Rattle.ltm_demand.specs.RowsLeft.{rows_left}
use Rattle.ltm_demand.proofs.all_rows.DemandRowsIterator.next.Given as goal

abbrev pub invariant-lists : goal.invariant-lists
invariant-lists l = rows_left l.self-inside.rows.now l.self-inside.origins.now ≡ rows_left l.initial.self-inside.rows.now l.initial.self-inside.origins.now

abbrev pub decreases-lists : goal.decreases-lists
decreases-lists l = length l.self-inside.origins.now
