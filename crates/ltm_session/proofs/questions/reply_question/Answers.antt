use Rattle.ltm_session.proofs.Reported.{on_ok_map, gap_replied}
use Rattle.ltm_session.proofs.questions.reply_question.Goals as goal

pub returns-in-Gap-clause-ok : goal.returns-in-Gap-clause-ok
returns-in-Gap-clause-ok c = on_ok_map c.push_gap.result _ _ (gap_replied c.args.core.now c.args.asks.now _ _ c.in-Gap.is) c.push_gap.ensures.ok
