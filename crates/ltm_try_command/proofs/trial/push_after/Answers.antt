use Rattle.std.proofs.Common.{ℕ, List, ◌++◌, ap, subst, sym, ◌∙◌}
use Rattle.ltm_flows.specs.Shown.{ShowsCounts}
use Rattle.ltm_times.specs.Times.{time_spent}
use Rattle.ltm_report.specs.Made.{work_line}
use Rattle.ltm_try_command.proofs.trial.push_after.Goals as goal

pub returns : goal.returns
returns c = λ s k shows.
    let first = c.in_ok-totals_text.ensures.ok s 1 k (subst (ShowsCounts s 1 k) (sym c.shown.ensures.loading) shows) in
    let second = c.in_ok-push_work.ensures s 1 k (subst (ShowsCounts s 1 k) (sym c.shown-2.ensures.loading) shows) in
    second ∙ ap (λ (xs : List ℕ). xs ++ work_line c.args.recomputed c.args.solved (time_spent s k)) first
