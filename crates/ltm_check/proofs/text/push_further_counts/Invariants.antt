use Rattle.std.proofs.Common.{◌≡◌, ◌++◌, ◌+◌}
use Rattle.ltm_curve.specs.Table.{counts_of}
use Rattle.ltm_units.specs.Texts.{texts_below}
use Rattle.ltm_check.specs.Seen.{curves_of}
use Rattle.ltm_check.specs.Text.{further_count}
use Rattle.ltm_check.proofs.text.push_further_counts.Given as goal

abbrev pub invariant-loop-slot : goal.invariant-loop-slot
invariant-loop-slot l = l.into.items ≡ l.fn.into.items ++ texts_below l.slot (λ k. further_count (counts_of (curves_of l.window) l.group l.destination (k + 1)))
