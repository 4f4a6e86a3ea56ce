use Rattle.std.proofs.Common.{◌≡◌, take}
use Rattle.ltm_make.specs.Links.{with_roads}
use Rattle.ltm_make.proofs.making.Making.add_grid.Given as goal

abbrev pub invariant-loop-road : goal.invariant-loop-road
invariant-loop-road l = l.self ≡ with_roads l.fn.self (take l.road-index l.road-items)
