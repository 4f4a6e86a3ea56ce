use Rattle.std.proofs.Common.{◌≡◌}
use Rattle.ltm_make.specs.Splits.{with_splits}
use Rattle.ltm_make.proofs.making.Making.add_splits.Given as goal

abbrev pub invariant-loop-node : goal.invariant-loop-node
invariant-loop-node l = l.self ≡ with_splits l.grid.nodes l.grid.width l.node l.fn.self
