use Rattle.std.proofs.Common.{sum_by, arith, ap}
use Rattle.std.proofs.lemmas.List.Sums.{sum_by-cons}
use Rattle.ltm_demand.specs.declared.row.DemandRow.{DemandRow}
use Rattle.ltm_demand.proofs.State.{total_le}
use Rattle.ltm_demand.proofs.demand.Demand.total.Goals as goal

pub overflow_add-sum : goal.overflow_add-sum
overflow_add-sum c =
    let f = λ (r : DemandRow). r.amount.0 in
    omega (arith, c.rows.invariant.so_far, ap (sum_by f) c.in-Some.ensures.steps, sum_by-cons f c.in-Some.row c.next.new.self, total_le c.args.self.now.demand.slots c.args.self.now.demand.most_rows c.args.self.now.demand.rows c.rows-rows.ensures.kept)
