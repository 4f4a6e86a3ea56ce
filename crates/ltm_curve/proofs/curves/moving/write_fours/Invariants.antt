use Rattle.std.proofs.Common.{◌≡◌, ◌↔◌, ◌+◌, ◌*◌, ◌^◌, ◌%◌, ◌-◌, ◌≤◌, length, slice_index}
use Rattle.std.specs.Prelude.{IsFalse}
use Rattle.ltm_units.specs.Sums.{sum_below}
use Rattle.ltm_curve.specs.Moving.{StandSums, WritesSums}
use Rattle.ltm_curve.proofs.curves.moving.write_fours.Given as goal

abbrev pub invariant-loop-begin : goal.invariant-loop-begin
invariant-loop-begin l = record {
  fours : l.begin % 4 ≡ 0;
  within : l.begin ≤ length l.amounts;
  same : IsFalse l.differs ↔ StandSums l.fn.table l.from l.to l.amounts 0 l.begin;
  small : l.even + l.odd ≤ l.begin * 2 ^ 31;
  whole : l.even + l.odd ≡ sum_below l.begin (slice_index l.amounts);
  sums : WritesSums l.fn.table l.table l.from l.to l.amounts 0 l.begin;
}

abbrev pub decreases-loop-begin : goal.decreases-loop-begin
decreases-loop-begin l = length l.amounts - l.begin
