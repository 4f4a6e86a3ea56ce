use Rattle.std.proofs.Common.{◌∙◌, sym, ap}
use Rattle.ltm_core.specs.Log.{Log, version_now}
use Rattle.ltm_session_editors.proofs.Told.{tells_totals}
use Rattle.ltm_session_editors.proofs.report.push_settled.Goals as goal

pub returns : goal.returns
returns c =
    tells_totals c.logs_tell_all.ensures c.args.core.now.log c.show.new.core (c.show.ensures.log ∙ c.repair.ensures.log) (c.show.ensures.all.shown ∙ ap (λ (l : Log). version_now l) (sym c.show.ensures.log)) c.shown-loading.ensures.is_shown
    c.totals_text.result _ _ (rw c.shown-loading.ensures.loading at c.totals_text.ensures.ok)
