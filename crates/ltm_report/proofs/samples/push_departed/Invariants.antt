use Rattle.std.proofs.Common.{ℕ, ◌≡◌, ◌++◌}
use Rattle.ltm_units.specs.Texts.{texts_below}
use Rattle.ltm_curve.specs.Counts.{Counts}
use Rattle.ltm_loading.specs.Setting.{Setting}
use Rattle.ltm_flows.specs.Origins.{departed_from}
use Rattle.ltm_flows.specs.Shown.{ShowsCounts}
use Rattle.ltm_report.specs.Rows.{counts}
use Rattle.ltm_report.specs.Sampled.{told_at}
use Rattle.ltm_report.proofs.samples.push_departed.Given as goal

abbrev pub invariant-loop-node : goal.invariant-loop-node
invariant-loop-node l =
    (s : Setting) (version : ℕ) (c : Counts) → ShowsCounts s version c l.loading
    → l.into.items ≡ l.initial.into.items ++ texts_below l.node (λ node. counts l.many (λ place. departed_from s c node (told_at l.every s.slots place)))
