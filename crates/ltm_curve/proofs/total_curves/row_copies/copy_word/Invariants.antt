use Rattle.std.proofs.Common.{◌≡◌, ℕ, ◌+◌, ◌-◌, ◌<◌, ◌≤◌, length, slice_index}
use Rattle.std.specs.Int.{bit_at}
use Rattle.ltm_curve.specs.RowTotals.{StaysOrIsTotal}
use Rattle.ltm_curve.specs.Totals.{row_sum}
use Rattle.ltm_curve.proofs.total_curves.row_copies.copy_word.Given as goal

abbrev pub invariant-loop-from : goal.invariant-loop-from
invariant-loop-from l =
    (l.from ≤ 64) × ((length l.into ≡ length l.fn.into) × (((g : ℕ) → g < length l.fn.into → l.first ≤ g → g < l.first + l.from → bit_at l.word (g - l.first) ≡ 1 → slice_index l.into g ≡ row_sum l.totals.numbers.now l.totals.each g)
    × StaysOrIsTotal l.totals.numbers.now l.totals.each l.fn.into l.into))

abbrev pub decreases-loop-from : goal.decreases-loop-from
decreases-loop-from l = 64 - l.from
