use Rattle.std.proofs.Common.{◌≡◌, ℕ, ◌-◌, ◌%◌, ◌<◌, length, slice_index, true}
use Rattle.ltm_curve.specs.Cells.{is_changed}
use Rattle.ltm_curve.specs.RowTotals.{StaysOrIsTotal}
use Rattle.ltm_curve.specs.Totals.{row_sum}
use Rattle.ltm_curve.proofs.total_curves.row_copies.copy_words.Given as goal

abbrev pub invariant-loop-first : goal.invariant-loop-first
invariant-loop-first l =
    (l.first % 64 ≡ 0) × ((length l.into ≡ length l.fn.into) × (((g : ℕ) → g < length l.fn.into → g < l.first → is_changed l.changed g l.boundary ≡ true → slice_index l.into g ≡ row_sum l.totals.numbers.now l.totals.each g)
    × StaysOrIsTotal l.totals.numbers.now l.totals.each l.fn.into l.into))

abbrev pub decreases-loop-first : goal.decreases-loop-first
decreases-loop-first l = length l.fn.into - l.first
