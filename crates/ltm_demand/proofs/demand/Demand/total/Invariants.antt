use Rattle.std.proofs.Common.{◌≡◌, ◌+◌, length, sum_by}
use Rattle.ltm_demand.proofs.demand.Demand.total.Given as goal

abbrev pub invariant-rows : goal.invariant-rows
invariant-rows l = record {
  so_far : l.sum + sum_by (λ r. r.amount.0) l.rows ≡ sum_by (λ r. r.amount.0) l.self.demand.rows;
}

abbrev pub decreases-rows : goal.decreases-rows
decreases-rows l = length l.rows
