use Rattle.std.proofs.Common.{ℕ, ◌+◌, ◌<◌, ◌≤◌}
use Rattle.ltm_curve.specs.Table.{IsIn}
use Rattle.ltm_check.specs.Window.{IsCopied, KeepsCopies}
use Rattle.ltm_check.proofs.window.copy_stretch.Given as goal

abbrev pub invariant-loop-step : goal.invariant-loop-step
invariant-loop-step l =
    KeepsCopies l.curves l.first l.fn.counts l.counts
    × ((k : ℕ) → l.from ≤ k → k < l.from + l.step → IsIn l.curves l.group l.destination k → IsCopied l.curves l.first l.counts l.group l.destination k)
