use Rattle.std.proofs.Common.{◌≡◌, ℕ, ◌+◌, ◌*◌, ◌<◌, ◌≤◌, vec_len, slice_index}
use Rattle.ltm_demand.specs.Productions.{told}
use Rattle.ltm_demand.proofs.production.Production.spread.Given as goal

abbrev pub invariant-loop-slot : goal.invariant-loop-slot
invariant-loop-slot l = record {
  long : vec_len l.units ≡ l.slot * (l.destinations + 1);
  rows : (c t : ℕ) → c ≤ l.destinations → t < l.slot → slice_index l.units.items (t * (l.destinations + 1) + c) ≡ told l.self c t;
}
