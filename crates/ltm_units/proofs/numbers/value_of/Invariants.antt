use Rattle.std.proofs.Common.{◌≡◌, ◌<◌, ◌^◌, take}
use Rattle.ltm_units.specs.Numbers.{value}
use Rattle.ltm_units.proofs.numbers.value_of.Given as goal

abbrev pub invariant-loop-d : goal.invariant-loop-d
invariant-loop-d l = (l.sum ≡ value (take l.d-index l.digits)) × (l.sum < 2 ^ 64)
