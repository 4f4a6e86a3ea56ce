use Rattle.std.proofs.Common.{◌≡◌, ℕ, ◌+◌, ◌<◌, ◌≤◌, length, slice_index_or}
use Rattle.ltm_flows.specs.Shown.{links_of}
use Rattle.ltm_times.specs.declared.delays.LinkDelay.{LinkDelay}
use Rattle.ltm_times.specs.DelaysBy.{IsLinkDelayIn}
use Rattle.ltm_times.proofs.delays_by_link.add_slot.Given as goal

abbrev pub invariant-loop-link : goal.invariant-loop-link
invariant-loop-link l = record {
  count : length l.delays ≡ links_of l.loading;
  done : (link : ℕ) (none : LinkDelay) → link < l.link → IsLinkDelayIn l.loading link (l.slot + 1) (slice_index_or l.delays link none);
  left : (link : ℕ) (none : LinkDelay) → l.link ≤ link → link < links_of l.loading → IsLinkDelayIn l.loading link l.slot (slice_index_or l.delays link none);
}
