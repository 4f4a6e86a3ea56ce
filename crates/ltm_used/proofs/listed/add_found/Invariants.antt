use Rattle.std.proofs.Common.{◌≡◌, ◌++◌}
use Rattle.ltm_used.specs.Lists.{found_from}
use Rattle.ltm_used.proofs.listed.add_found.Given as goal

abbrev pub invariant-loop-number : goal.invariant-loop-number
invariant-loop-number l = l.into.items ≡ l.initial.into.items ++ found_from l.found l.fn.first l.number
