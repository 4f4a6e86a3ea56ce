use Rattle.ltm_session.proofs.Reported.{on_ok_map, gap_reported, gap_suits}
use Rattle.ltm_session.proofs.questions.push_gap.Goals as goal

pub gap_text-requires : goal.gap_text-requires
gap_text-requires c = gap_suits c.args.core.now c.in_ok-scenario.scenario c.shown.result.now c.shown.ensures.loading c.shown.ensures.is_shown c.in_ok-scenario.ensures

pub returns-clause-ok : goal.returns-clause-ok
returns-clause-ok c =
    on_ok_map c.gap_text.result _ _
    (gap_reported c.args.core.now c.in_ok-scenario.scenario c.shown.result.now _ _ c.shown.ensures.loading c.shown.ensures.is_shown c.in_ok-scenario.ensures) c.gap_text.ensures.ok
