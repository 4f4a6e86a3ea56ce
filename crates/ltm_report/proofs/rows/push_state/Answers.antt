use Rattle.std.proofs.lemmas.Result.{on_ok_weaker}
use Rattle.ltm_report.proofs.Rowed.{state_told}
use Rattle.ltm_report.proofs.rows.push_state.Goals as goal

pub returns : goal.returns
returns c =
    on_ok_weaker c.push_newline.result
    (state_told c.args.loading.now c.version.result c.args.boundary _ _ _ _ _ _ c.version.ensures c.in_ok-push_version.ensures c.in_ok-push_slot.ensures
    c.in_ok-push_passed.ensures c.in_ok-push_standing.ensures)
    c.push_newline.ensures
