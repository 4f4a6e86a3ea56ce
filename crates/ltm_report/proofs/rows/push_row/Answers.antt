use Rattle.std.proofs.Common.{◌≡◌, ◌++◌, ◌∙◌, ℕ, List, ap, append_assoc}
use Rattle.std.proofs.lemmas.Result.{on_ok_weaker}
use Rattle.ltm_report.specs.Rows.{counts, row}
use Rattle.ltm_report.proofs.rows.push_row.Goals as goal

pub returns : goal.returns
unfolding row
returns g c =
    on_ok_weaker c.push_counts.result
    (λ wrote f are.
    wrote f are
    ∙ (ap (λ (x : List ℕ). x ++ counts c.args.many f) c.in_ok-push_text.ensures.ok
    ∙ append_assoc c.args.into.now.items c.args.words.now (counts c.args.many f)))
    c.push_counts.ensures
