use Rattle.std.proofs.Common.{ℕ, ◌<◌, ◌≤◌, ◌*◌, ◌-◌}
use Rattle.ltm_make.proofs.grid.width_of.Given as goal

abbrev pub invariant-loop-width : goal.invariant-loop-width
invariant-loop-width l = record {
  few : l.width ≤ 20;
  least : (less : ℕ) → less < l.width → less * less < l.nodes;
}

abbrev pub decreases-loop-width : goal.decreases-loop-width
decreases-loop-width l = 20 - l.width
