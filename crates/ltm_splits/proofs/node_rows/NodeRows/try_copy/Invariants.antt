use Rattle.std.proofs.Common.{◌≡◌, take}
use Rattle.ltm_splits.proofs.node_rows.NodeRows.try_copy.Given as goal

abbrev pub invariant-loop-pair : goal.invariant-loop-pair
invariant-loop-pair l = l.pairs.items ≡ take l.pair-index l.pair-items
