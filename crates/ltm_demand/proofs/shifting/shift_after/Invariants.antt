use Rattle.std.proofs.Common.{◌≡◌, ◌≢◌, ℕ, ◌+◌, ◌*◌, ◌<◌, ◌≤◌, length, slice_index}
use Rattle.ltm_demand.specs.Productions.{IsOneOf}
use Rattle.ltm_demand.proofs.shifting.shift_after.Given as goal

abbrev pub invariant-loop-slot : goal.invariant-loop-slot
invariant-loop-slot l = record {
  long : length l.units ≡ length l.fn.units;
  front : (c t : ℕ) → c < l.width → t < l.row.to → slice_index l.units (t * l.width + c) ≡ slice_index l.fn.units (t * l.width + c);
  done : (c t : ℕ) → IsOneOf l.own c → l.row.to ≤ t → t < l.slot → slice_index l.units (t * l.width + c) + l.was ≡ slice_index l.fn.units (t * l.width + c) + l.row.amount.0;
  left : (c t : ℕ) → c < l.width → l.slot ≤ t → slice_index l.units (t * l.width + c) ≡ slice_index l.fn.units (t * l.width + c);
  others : (c t : ℕ) → c < l.width → c ≢ 0 → c ≢ l.own → slice_index l.units (t * l.width + c) ≡ slice_index l.fn.units (t * l.width + c);
}
