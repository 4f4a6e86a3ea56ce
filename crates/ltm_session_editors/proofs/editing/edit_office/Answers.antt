use Rattle.std.proofs.Common.{ap, arith}
use Rattle.ltm_session_editors.proofs.Crews.{desk_calls}
use Rattle.ltm_session_editors.proofs.editing.edit_office.Goals as goal

pub returns-in-Ok-clause-calls : goal.returns-in-Ok-clause-calls
returns-in-Ok-clause-calls g c =
    desk_calls c.edit_all-first.result.1 _ _ c.args.scripts.items _ _ c.close.result.history _ (ap (λ p. p.made) c.in-Ok.ensures.place) c.close.ensures.history c.edit_all-first.ensures.made (omega arith) c.close.ensures.made c.edit_all-first.ensures.all
