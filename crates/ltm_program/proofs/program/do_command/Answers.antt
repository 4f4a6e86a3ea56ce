use Rattle.std.proofs.Common.{ap, sym, Some}
use Rattle.ltm_program.proofs.Runs.{has_text, ran_text, ran_as}
use Rattle.ltm_program.proofs.program.do_command.Goals as goal

pub returns-in-Session : goal.returns-in-Session
returns-in-Session g c = ran_as _ _ _ _ _ (ap Some (sym c.in-Session.is)) c.serve_beside.ensures

pub returns-in-View : goal.returns-in-View
returns-in-View g c = ran_as _ _ _ _ _ (ap Some (sym c.in-View.is)) c.serve_viewed.ensures

pub returns-in-Editors : goal.returns-in-Editors
returns-in-Editors g c = ran_as _ _ _ _ _ (ap Some (sym c.in-Editors.is)) (c.edit_together.ensures (g.S.Source.left c.args.input.now) (g.S.Source.faults c.args.input.now))

pub returns-in_default : goal.returns-in_default
returns-in_default g c =
    ran_text c.args.command _ _ _ (has_text c.args.command c.in_default.not-Session c.in_default.not-View c.in_default.not-Editors) (c.run_command.ensures (g.S.Source.left c.args.input.now) (g.S.Source.faults c.args.input.now))
