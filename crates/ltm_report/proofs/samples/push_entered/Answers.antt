use Rattle.std.proofs.Common.{ℕ, ◌≡◌, ◌++◌, ◌∙◌, ap, arith}
use Rattle.ltm_loading.specs.Totals.{entered_link}
use Rattle.ltm_report.specs.Rows.{counts}
use Rattle.ltm_report.specs.Sampled.{told_at}
use Rattle.ltm_report.proofs.Rowed.{one_text_more}
use Rattle.ltm_report.proofs.Telling.{rows_told}
use Rattle.ltm_report.proofs.samples.push_entered.Goals as goal

pub loop-link-preserved : goal.loop-link-preserved
loop-link-preserved c s version shown shows =
    one_text_more c.loop-link.link (λ link. counts c.args.many (λ place. entered_link s shown link (told_at c.args.every s.slots place))) _ _ _
    (c.loop-link.invariant s version shown shows) (c.in_ok-push_entered_of.ensures s version shown shows)

pub returns : goal.returns
returns c s version shown shows =
    let all : c.loop-link.link ≡ c.links-link-end.result = omega arith in
    rows_told c.loop-link.link _ c.args.many _ c.args.into.now.items _ _ (λ link place. entered_link s shown link (told_at c.args.every s.slots place))
    (all ∙ c.links-link-end.ensures.value) c.in_ok-push_text.ensures.ok (c.loop-link.invariant s version shown shows)
