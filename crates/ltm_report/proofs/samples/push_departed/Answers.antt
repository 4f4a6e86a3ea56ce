use Rattle.std.proofs.Common.{ℕ, ◌≡◌, ◌++◌, ◌∙◌, ap, arith}
use Rattle.ltm_flows.specs.Origins.{departed_from}
use Rattle.ltm_report.specs.Rows.{counts}
use Rattle.ltm_report.specs.Sampled.{told_at}
use Rattle.ltm_report.proofs.Rowed.{one_text_more}
use Rattle.ltm_report.proofs.Telling.{rows_told}
use Rattle.ltm_report.proofs.samples.push_departed.Goals as goal

pub loop-node-preserved : goal.loop-node-preserved
loop-node-preserved c s version shown shows =
    one_text_more c.loop-node.node (λ node. counts c.args.many (λ place. departed_from s shown node (told_at c.args.every s.slots place))) _ _ _
    (c.loop-node.invariant s version shown shows) (c.in_ok-push_departed_of.ensures s version shown shows)

pub returns : goal.returns
returns c s version shown shows =
    let all : c.loop-node.node ≡ c.nodes-node-end.result = omega arith in
    rows_told c.loop-node.node _ c.args.many _ c.args.into.now.items _ _ (λ node place. departed_from s shown node (told_at c.args.every s.slots place))
    (all ∙ c.nodes-node-end.ensures) c.in_ok-push_text.ensures.ok (c.loop-node.invariant s version shown shows)
