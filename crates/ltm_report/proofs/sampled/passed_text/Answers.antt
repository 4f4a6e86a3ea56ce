use Rattle.std.proofs.Common.{◌≡◌, ◌∙◌, ◌++◌, List, ℕ, ap}
use Rattle.std.proofs.lemmas.Result.{on_ok_weaker}
use Rattle.ltm_report.specs.Sampled.{passed_report}
use Rattle.ltm_report.proofs.sampled.passed_text.Goals as goal

pub returns-clause-ok : goal.returns-clause-ok
returns-clause-ok c =
    let items : List ℕ = c.args.into.now.items in
    on_ok_weaker c.push_text.result
    (λ wrote s version counts shows.
    wrote
    ∙ ap (λ (x : List ℕ). items ++ x)
    (c.as_slice.ensures.value
    ∙ (c.in_ok-push_passed.ensures s version counts shows
    ∙ ap (λ (x : List ℕ). x ++ passed_report c.args.every c.args.name.now c.args.link.0 s counts) c.new-line.ensures.items)))
    c.push_text.ensures.ok
