use Rattle.std.proofs.Common.{◌≡◌, ℕ, ◌<◌, length}
use Rattle.ltm_demand.specs.Origins.{origin_at}
use Rattle.ltm_demand.proofs.KeptOrigins.{IsCopy}
use Rattle.ltm_demand.proofs.demand.Demand.try_copy.Given as goal

abbrev pub invariant-loop-origin : goal.invariant-loop-origin
invariant-loop-origin l = record {
  long : length l.origins.items ≡ l.origin-index;
  copy : (i : ℕ) → i < l.origin-index → IsCopy (origin_at l.origin-items i) (origin_at l.origins.items i);
  of : l.origin-items ≡ l.self-inside.origins.items;
}
