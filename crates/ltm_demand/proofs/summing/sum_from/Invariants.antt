use Rattle.std.proofs.Common.{length, drop, ◌-◌, ◌≡◌, ◌+◌, ◌≤◌}
use Rattle.ltm_demand.specs.Produced.{by_end_to}
use Rattle.ltm_demand.proofs.summing.sum_from.Given as goal

abbrev pub invariant-rows : goal.invariant-rows
invariant-rows l = record {
  so_far : l.sum + by_end_to (drop l.place l.rows) l.destination l.slot ≡ by_end_to l.rows l.destination l.slot;
  from : l.begin ≤ l.place;
  within : l.place ≤ length l.rows;
}

abbrev pub decreases-rows : goal.decreases-rows
decreases-rows l = length l.rows - l.place
