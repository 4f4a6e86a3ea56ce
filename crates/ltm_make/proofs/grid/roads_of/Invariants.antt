use Rattle.std.proofs.Common.{◌≡◌}
use Rattle.ltm_make.specs.Grid.{roads}
use Rattle.ltm_make.proofs.grid.roads_of.Given as goal

abbrev pub invariant-loop-node : goal.invariant-loop-node
invariant-loop-node l = l.list.items ≡ roads l.nodes l.width l.node
