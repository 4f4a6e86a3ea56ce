use Rattle.std.proofs.Common.{rules}
use Rattle.std.proofs.lemmas.Result.{on_ok_weaker}
use Rattle.ltm_loading.specs.Totals.{left_link}
use Rattle.ltm_report.specs.Sampled.{told_at}
use Rattle.ltm_report.proofs.samples.push_left_of.Goals as goal

pub returns : goal.returns
returns c =
    on_ok_weaker c.push_counts.result
    (λ wrote s version counts shows. wrote (λ place. left_link s counts c.args.link.0 (told_at c.args.every s.slots place)) (λ k n less post. search rules))
    c.push_counts.ensures
