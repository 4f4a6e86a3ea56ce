use Rattle.std.proofs.Common.{◌≡◌}
use Rattle.ltm_make.specs.Demands.{with_demands}
use Rattle.ltm_make.proofs.making.Making.add_demands.Given as goal

abbrev pub invariant-loop-node : goal.invariant-loop-node
invariant-loop-node l = l.self ≡ with_demands l.grid.width l.node l.fn.self
