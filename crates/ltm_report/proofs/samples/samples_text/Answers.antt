use Rattle.std.proofs.Common.{◌≡◌, ◌∙◌, ◌++◌, List, ℕ, ap}
use Rattle.std.proofs.lemmas.Result.{on_ok_weaker}
use Rattle.ltm_report.specs.Samples.{samples_report}
use Rattle.ltm_report.proofs.samples.samples_text.Goals as goal

pub returns-clause-ok : goal.returns-clause-ok
returns-clause-ok c =
    let items : List ℕ = c.args.into.now.items in
    on_ok_weaker c.push_text.result
    (λ wrote s version counts shows.
    wrote
    ∙ ap (λ (x : List ℕ). items ++ x)
    (c.as_slice.ensures.value
    ∙ (c.in_ok-push_samples.ensures s version counts shows
    ∙ ap (λ (x : List ℕ). x ++ samples_report c.args.every version s counts) c.new-line.ensures.items)))
    c.push_text.ensures.ok
