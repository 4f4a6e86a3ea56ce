use Rattle.std.proofs.Common.{◌≡◌, ◌≤◌, ◌*◌, ◌/◌, ◌^◌}
use Rattle.ltm_units.specs.Sums.{sum_below}
use Rattle.ltm_gap.specs.Steps.{sum_at}
use Rattle.ltm_gap.proofs.gaps.Gaps.all.Given as goal

abbrev pub invariant-loop-destination : goal.invariant-loop-destination
invariant-loop-destination l = record {
  least : l.least ≡ sum_below l.destination (λ d. (sum_at l.self.sums.items d).twice / 2);
  late : l.late ≡ sum_below l.destination (λ d. (sum_at l.self.sums.items d).late);
  small_least : l.least ≤ l.destination * 2 ^ 117;
  small_late : l.late ≤ l.destination * 2 ^ 87;
}
