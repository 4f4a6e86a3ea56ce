use Rattle.std.proofs.lemmas.Result.{on_ok_weaker}
use Rattle.ltm_report.proofs.Reported.{load_link_shown}
use Rattle.ltm_report.proofs.links.load_link_text.Goals as goal

pub returns-clause-ok : goal.returns-clause-ok
returns-clause-ok c =
    on_ok_weaker c.load_link_line_text.result
    (load_link_shown c.args.loading.now c.args.link.0 c.args.name.now c.entered-entered.result.0 c.left-gone.result.0 _ _ c.entered-entered.ensures.shown c.left-gone.ensures.shown)
    c.load_link_line_text.ensures.ok
