use Rattle.std.proofs.Common.{ℕ, ◌+◌, ◌++◌, ◌∙◌, ap}
use Rattle.ltm_curve.specs.Table.{counts_of}
use Rattle.ltm_check.specs.Seen.{curves_of}
use Rattle.ltm_check.specs.Text.{further_count}
use Rattle.ltm_check.proofs.Passing.{texts_on}
use Rattle.ltm_check.proofs.text.push_further_counts.Goals as goal

pub loop-slot-preserved : goal.loop-slot-preserved
loop-slot-preserved c =
    texts_on c.args.into.now.items c.loop-slot.into.items _ c.loop-slot.slot (λ (k : ℕ). further_count (counts_of (curves_of c.args.window.now) c.args.group c.args.destination (k + 1)))
    c.loop-slot.invariant (c.in_ok-push_further.ensures ∙ ap (λ (n : ℕ). c.loop-slot.into.items ++ further_count n) c.get.ensures)
