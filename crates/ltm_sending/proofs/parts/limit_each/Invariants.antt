use Rattle.std.proofs.Common.{◌≡◌, ℕ, ◌<◌, ◌≤◌, slice_index}
use Rattle.ltm_loading.specs.Flows.{limited}
use Rattle.ltm_sending.proofs.parts.limit_each.Given as goal

abbrev pub invariant-loop-part : goal.invariant-loop-part
invariant-loop-part l =
    ((d : ℕ) → d < l.part-index → slice_index l.parts d ≡ limited l.limit l.whole (slice_index l.fn.parts d))
    × ((d : ℕ) → l.part-index ≤ d → slice_index l.parts d ≡ slice_index l.fn.parts d)
