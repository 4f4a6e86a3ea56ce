use Rattle.std.proofs.Common.{ap, sym, subst, ◌∙◌}
use Rattle.ltm_editors.specs.Lists.{GrowsBy}
use Rattle.ltm_editors.specs.Offices.{opening_of, history_of, editor_of}
use Rattle.ltm_editors.proofs.Legal.{answers_at, stays_at}
use Rattle.ltm_editors.proofs.office.Office.accept.Goals as goal

pub answer-requires-clause-office : goal.answer-requires-clause-office
answer-requires-clause-office c = c.self.invariant

pub invariant_of-self : goal.invariant_of-self
invariant_of-self c = c.answer.ensures.office

pub returns-clause-ok : goal.returns-clause-ok
returns-clause-ok c = answers_at _ _ c.args.editor c.args.batch _ c.answer.result c.self.view_is c.answer.ensures.ok

pub returns-clause-same : goal.returns-clause-same
returns-clause-same c = stays_at _ _ _ c.answer.result c.self.view_is c.answer.ensures.same

pub returns-clause-opening : goal.returns-clause-opening
returns-clause-opening c = c.answer.ensures.opening ∙ ap opening_of c.self.view_is

pub returns-clause-grows : goal.returns-clause-grows
returns-clause-grows c = λ found g. c.answer.ensures.grows found (subst (λ l. GrowsBy editor_of c.args.editor found l) (sym (ap history_of c.self.view_is)) g)
