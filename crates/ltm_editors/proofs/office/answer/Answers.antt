use Rattle.std.proofs.Common.{sym, subst}
use Rattle.ltm_editors.specs.Lists.{GrowsBy}
use Rattle.ltm_editors.specs.Offices.{editor_of, IsOffice}
use Rattle.ltm_editors.proofs.Legal.{still_answers, still_stays, nothing_done}
use Rattle.ltm_editors.proofs.office.answer.Goals as goal

pub note-requires-clause-office : goal.note-requires-clause-office
note-requires-clause-office c = subst (λ l. IsOffice c.args.core.now l) (sym c.reserve_call.ensures.same) c.requires.office

pub returns-in-Ok-clause-ok : goal.returns-in-Ok-clause-ok
returns-in-Ok-clause-ok c = still_answers c.args.core.now c.args.calls.now.items _ c.args.editor c.args.batch _ c.note.result c.reserve_call.ensures.same c.note.ensures.ok

pub returns-in-Ok-clause-same : goal.returns-in-Ok-clause-same
returns-in-Ok-clause-same c = still_stays c.args.core.now c.args.calls.now.items _ _ c.note.result c.reserve_call.ensures.same c.note.ensures.same

pub returns-in-Ok-clause-grows : goal.returns-in-Ok-clause-grows
returns-in-Ok-clause-grows c = λ found g. c.note.ensures.grows found (subst (λ l. GrowsBy editor_of c.args.editor found l) (sym c.reserve_call.ensures.same) g)

pub returns-in-Err-clause-office : goal.returns-in-Err-clause-office
returns-in-Err-clause-office c = subst (λ l. IsOffice c.args.core.now l) (sym c.reserve_call.ensures.same) c.requires.office

pub returns-in-Err-clause-same : goal.returns-in-Err-clause-same
returns-in-Err-clause-same c = nothing_done c.args.core.now c.args.calls.now.items _ c.reserve_call.ensures.same

pub returns-in-Err-clause-grows : goal.returns-in-Err-clause-grows
returns-in-Err-clause-grows c = λ found g. subst (λ l. GrowsBy editor_of c.args.editor found l) (sym c.reserve_call.ensures.same) g
