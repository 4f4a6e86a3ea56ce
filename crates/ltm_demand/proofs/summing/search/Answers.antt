use Rattle.std.proofs.Common.{nat_lt, rules}
use Rattle.std.proofs.lemmas.List.Sorted.{IsPartitionPoint-from_clause}
use Rattle.ltm_demand.proofs.Begins.{parted, searched}
use Rattle.ltm_demand.proofs.summing.search.Goals as goal

pub returns : goal.returns
returns c =
    let facts = c.partition_point.ensures in
    let point = IsPartitionPoint-from_clause (λ r. nat_lt r.destination c.args.destination) _ _ facts.partitioned (parted c.args.rows.now c.args.destination c.requires) (λ a r q k. search rules) in
    searched c.args.rows.now c.args.destination c.partition_point.result facts.bound point
