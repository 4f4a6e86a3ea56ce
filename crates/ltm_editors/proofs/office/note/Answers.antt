use Rattle.std.proofs.Common.{refl, sym, ap, subst}
use Rattle.ltm_editors.specs.Lists.{GrowsBy}
use Rattle.ltm_editors.specs.Offices.{editor_of, IsOffice}
use Rattle.ltm_editors.proofs.Legal.{verdict_right, office_put, office_looks, opening_same, grows_more}
use Rattle.ltm_editors.proofs.office.note.Goals as goal

pub returns-in-Ok-clause-office : goal.returns-in-Ok-clause-office
returns-in-Ok-clause-office c = subst (λ l. IsOffice c.ask.new.core l) (sym c.put.ensures)
    (office_put c.args.core.now c.args.calls.now.items c.args.batch c.in-Ok.verdict c.ask.new.core _ c.requires.office c.in-Ok.ensures.ok refl c.of-about.ensures)

pub returns-in-Ok-clause-ok : goal.returns-in-Ok-clause-ok
returns-in-Ok-clause-ok c = record {
  answer = verdict_right c.args.core.now c.args.calls.now.items c.args.batch c.in-Ok.verdict c.ask.new.core c.requires.office c.in-Ok.ensures.ok;
  core = c.in-Ok.ensures.ok;
  put = record { call = _; last = c.put.ensures; of_editor = refl; with_batch = c.of-about.ensures; with_verdict = refl };
}

pub returns-in-Ok-clause-opening : goal.returns-in-Ok-clause-opening
returns-in-Ok-clause-opening c = opening_same c.args.core.now c.args.batch c.in-Ok.verdict c.ask.new.core c.in-Ok.ensures.ok

pub returns-in-Ok-clause-grows : goal.returns-in-Ok-clause-grows
returns-in-Ok-clause-grows c = λ found g. subst (λ l. GrowsBy editor_of c.args.editor found l) (sym c.put.ensures) (grows_more editor_of c.args.editor found c.args.calls.now.items _ g refl)

pub returns-in-Err-clause-office : goal.returns-in-Err-clause-office
returns-in-Err-clause-office c = office_looks c.args.core.now c.args.calls.now.items c.ask.new.core c.requires.office c.in-Err.ensures.same

pub returns-in-Err-clause-same : goal.returns-in-Err-clause-same
returns-in-Err-clause-same c = record { history = refl; core = c.in-Err.ensures.same }

pub returns-in-Err-clause-opening : goal.returns-in-Err-clause-opening
returns-in-Err-clause-opening c = ap (λ l. l.opening) c.in-Err.ensures.same.log
