use Rattle.std.proofs.Common.{ℕ, ◌<◌}
use Rattle.ltm_curve.specs.Table.{IsIn}
use Rattle.ltm_check.specs.Window.{IsCopied, KeepsCopies, IsNear}
use Rattle.ltm_check.proofs.window.copy_group.Given as goal

abbrev pub invariant-loop-destination : goal.invariant-loop-destination
invariant-loop-destination l =
    KeepsCopies l.curves l.first l.fn.counts l.counts
    × ((d k : ℕ) → d < l.destination → IsNear l.from k → IsIn l.curves l.group d k → IsCopied l.curves l.first l.counts l.group d k)
