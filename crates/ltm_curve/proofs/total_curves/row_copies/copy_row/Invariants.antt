use Rattle.std.proofs.Common.{◌≡◌, ℕ, ◌<◌, length, slice_index}
use Rattle.ltm_curve.specs.Totals.{row_sum}
use Rattle.ltm_curve.proofs.total_curves.row_copies.copy_row.Given as goal

abbrev pub invariant-loop-group : goal.invariant-loop-group
invariant-loop-group l = (length l.into ≡ length l.fn.into) × ((g : ℕ) → g < l.group → slice_index l.into g ≡ row_sum l.totals.numbers.now l.totals.each g)
