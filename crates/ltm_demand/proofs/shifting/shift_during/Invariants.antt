use Rattle.std.proofs.Common.{◌≡◌, ◌≢◌, ℕ, ◌+◌, ◌-◌, ◌*◌, ◌<◌, ◌≤◌, length, slice_index}
use Rattle.ltm_demand.specs.Produced.{produced}
use Rattle.ltm_demand.specs.Productions.{IsOneOf}
use Rattle.ltm_demand.proofs.shifting.shift_during.Given as goal

abbrev pub invariant-loop-slot : goal.invariant-loop-slot
invariant-loop-slot l = record {
  long : length l.units ≡ length l.fn.units;
  gone_amount : l.gone.amount ≡ l.was;
  gone_slots : l.gone.slots ≡ l.row.to - l.row.from;
  gone_passed : l.gone.passed + l.row.from ≡ l.slot;
  come_amount : l.come.amount ≡ l.row.amount.0;
  come_slots : l.come.slots ≡ l.row.to - l.row.from;
  come_passed : l.come.passed + l.row.from ≡ l.slot;
  done : (c t : ℕ) → IsOneOf l.own c → t < l.slot → slice_index l.units (t * l.width + c) + produced l.row.from l.row.to l.was t ≡ slice_index l.fn.units (t * l.width + c) + produced l.row.from l.row.to l.row.amount.0 t;
  left : (c t : ℕ) → c < l.width → l.slot ≤ t → slice_index l.units (t * l.width + c) ≡ slice_index l.fn.units (t * l.width + c);
  others : (c t : ℕ) → c < l.width → c ≢ 0 → c ≢ l.own → slice_index l.units (t * l.width + c) ≡ slice_index l.fn.units (t * l.width + c);
}
