use Rattle.std.proofs.Common.{rules}
use Rattle.std.proofs.lemmas.Result.{on_ok_weaker}
use Rattle.ltm_flows.specs.Origins.{departed_from}
use Rattle.ltm_report.specs.Sampled.{told_at}
use Rattle.ltm_report.proofs.samples.push_departed_of.Goals as goal

pub returns : goal.returns
returns c =
    on_ok_weaker c.push_counts.result
    (λ wrote s version counts shows. wrote (λ place. departed_from s counts c.args.node.0 (told_at c.args.every s.slots place)) (λ k n less post. search rules))
    c.push_counts.ensures
