use Rattle.std.proofs.Common.{◌≡◌, ◌*◌, length}
use Rattle.ltm_check.specs.Window.{AreCopied, stretch}
use Rattle.ltm_check.proofs.window.copy_all.Given as goal

abbrev pub invariant-loop-part : goal.invariant-loop-part
invariant-loop-part l =
    (length l.counts ≡ length l.fn.counts)
    × AreCopied l.curves l.first l.end (l.part * stretch) l.counts
