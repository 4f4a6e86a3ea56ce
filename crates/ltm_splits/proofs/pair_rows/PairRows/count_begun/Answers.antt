use Rattle.std.proofs.Common.{leb, rules}
use Rattle.std.proofs.lemmas.List.Sorted.{IsPartitionPoint-from_clause}
use Rattle.ltm_splits.proofs.Place.{parted, counted}
use Rattle.ltm_splits.proofs.pair_rows.PairRows.count_begun.Goals as goal

pub returns : goal.returns
returns c =
    let facts = c.partition_point.ensures in
    let sorted = parted c.as_slice.result.now (rw c.as_slice.ensures c.self.invariant) c.args.slot in
    let point = IsPartitionPoint-from_clause (λ e. leb e.0 c.args.slot) _ _ facts.partitioned sorted (λ a r q k. search rules) in
    rw (← c.self.view_is, ← c.as_slice.ensures) (counted c.as_slice.result.now c.args.slot _ facts.bound point)
