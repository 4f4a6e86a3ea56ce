use Rattle.std.proofs.Common.{◌≡◌, ◌+◌, ◌*◌, ◌^◌, ◌%◌, ◌-◌, ◌≤◌, length, slice_index}
use Rattle.ltm_units.specs.Sums.{sum_below}
use Rattle.ltm_curve.specs.Adding.{AddsAmounts}
use Rattle.ltm_curve.proofs.curves.adding.add_fours.Given as goal

abbrev pub invariant-loop-begin : goal.invariant-loop-begin
invariant-loop-begin l = record {
  fours : l.begin % 4 ≡ 0;
  within : l.begin ≤ length l.amounts;
  small : l.even + l.odd ≤ l.begin * 2 ^ 31;
  whole : l.even + l.odd ≡ sum_below l.begin (slice_index l.amounts);
  added : AddsAmounts l.fn.row l.row l.amounts 0 l.begin;
}

abbrev pub decreases-loop-begin : goal.decreases-loop-begin
decreases-loop-begin l = length l.amounts - l.begin
