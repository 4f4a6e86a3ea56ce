use Rattle.std.proofs.Common.{◌≡◌, ℕ, ◌<◌, length, slice_index_or}
use Rattle.ltm_flows.specs.Shown.{step_of, links_of, free_of}
use Rattle.ltm_times.specs.declared.behind.Behind.{Behind}
use Rattle.ltm_times.specs.Behind.{IsBehind}
use Rattle.ltm_times.proofs.delays_by_link.free_times.Given as goal

abbrev pub invariant-loop-link : goal.invariant-loop-link
invariant-loop-link l = record {
  count : length l.times.items ≡ links_of l.loading;
  done : (link : ℕ) (none : Behind) → link < l.link → IsBehind (step_of l.loading) (free_of l.loading link) (slice_index_or l.times.items link none);
}
