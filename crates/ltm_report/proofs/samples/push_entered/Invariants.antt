use Rattle.std.proofs.Common.{ℕ, ◌≡◌, ◌++◌}
use Rattle.ltm_units.specs.Texts.{texts_below}
use Rattle.ltm_curve.specs.Counts.{Counts}
use Rattle.ltm_loading.specs.Setting.{Setting}
use Rattle.ltm_loading.specs.Totals.{entered_link}
use Rattle.ltm_flows.specs.Shown.{ShowsCounts}
use Rattle.ltm_report.specs.Rows.{counts}
use Rattle.ltm_report.specs.Sampled.{told_at}
use Rattle.ltm_report.proofs.samples.push_entered.Given as goal

abbrev pub invariant-loop-link : goal.invariant-loop-link
invariant-loop-link l =
    (s : Setting) (version : ℕ) (c : Counts) → ShowsCounts s version c l.loading
    → l.into.items ≡ l.initial.into.items ++ texts_below l.link (λ link. counts l.many (λ place. entered_link s c link (told_at l.every s.slots place)))
