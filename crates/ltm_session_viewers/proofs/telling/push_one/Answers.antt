use Rattle.std.proofs.Common.{sym, subst}
use Rattle.ltm_flows.specs.declared.loading_totals.Totals.{Totals}
use Rattle.ltm_board.specs.Lists.{entries_of_posts}
use Rattle.ltm_board.specs.Boards.{board_list}
use Rattle.ltm_session.specs.Analysts.{state_of}
use Rattle.ltm_session.specs.Answers.{ReportsShown}
use Rattle.ltm_session_viewers.specs.Lines.{viewer_line, viewer_report}
use Rattle.ltm_session_viewers.proofs.Told.{on_ok_map, told_shown}
use Rattle.ltm_session_viewers.proofs.telling.push_one.Goals as goal

pub returns : goal.returns
returns g c =
    let count = c.look_last-count.result in
    let said = told_shown c.lists_lead.ensures c.args.core.now c.args.number count (entries_of_posts (board_list c.args.board.now)) c.look_last-count.new.watch.sheet c.facts.ensures c.shown-shown.ensures.is_shown
    c.requires.posted c.look_last-count.ensures.sheet c.look_last-count.ensures.count in
    let told = subst (λ (t : Totals). ReportsShown (state_of c.args.core.now) (viewer_report c.args.number) (viewer_line c.args.number count t.generated.0 t.arrived.0 t.on_links.0 t.waiting.0)) (sym c.totals.ensures) said in
    on_ok_map c.viewer_text.result _ _ (λ wrote. (_, told, wrote)) c.viewer_text.ensures
