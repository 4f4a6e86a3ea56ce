use Rattle.std.proofs.Common.{ℕ, ◌<◌, ◌≤◌}
use Rattle.ltm_curve.specs.Table.{IsIn}
use Rattle.ltm_check.specs.Window.{IsCopied, KeepsCopies, IsNear}
use Rattle.ltm_check.proofs.window.copy_groups.Given as goal

abbrev pub invariant-loop-group : goal.invariant-loop-group
invariant-loop-group l =
    KeepsCopies l.curves l.first l.fn.counts l.counts
    × ((g d k : ℕ) → l.first ≤ g → g < l.group → IsNear l.from k → IsIn l.curves g d k → IsCopied l.curves l.first l.counts g d k)
