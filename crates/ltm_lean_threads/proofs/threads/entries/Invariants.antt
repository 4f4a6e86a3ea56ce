use Rattle.std.proofs.Common.{◌≡◌, ◌-◌, ◌^◌, min, length}
use Rattle.ltm_units.specs.Sums.{sum_below}
use Rattle.ltm_used.specs.Lists.{list_of}
use Rattle.ltm_lean_threads.proofs.threads.entries.Given as goal

abbrev pub invariant-loop-link : goal.invariant-loop-link
invariant-loop-link l = record {
  sum : l.sum ≡ min (2 ^ 64 - 1) (sum_below l.link (λ k. length (list_of l.tables.links k)));
}
