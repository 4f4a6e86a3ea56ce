use Rattle.std.proofs.Common.{IfOk, Some, ap, sym, subst, ◌∙◌}
use Rattle.ltm_editors.specs.declared.office.Office.{Office}
use Rattle.ltm_editors.specs.Lists.{GrowsBy}
use Rattle.ltm_editors.specs.Offices.{opening_of, history_of, editor_of, AnswersCall}
use Rattle.ltm_editors.proofs.accepting.Held+Office.accept.Goals as goal

pub invariant_of-self : goal.invariant_of-self
invariant_of-self c =
    let lent = sym c.as_mut.ensures.value in
    record {
      opens = c.args.self.now.opens ∙ ap (λ o. Some o) (ap opening_of lent ∙ sym c.accept.ensures.opening);
      grows = c.accept.ensures.grows c.args.self.now.grip.seat.me.0.seen
          (subst (λ (x : Office). GrowsBy editor_of c.args.self.now.grip.number c.args.self.now.grip.seat.me.0.seen (history_of x)) lent c.args.self.now.grows);
    }

pub returns-clause-ok : goal.returns-clause-ok
returns-clause-ok c =
    subst (λ (x : Office). IfOk c.accept.result (λ verdict. AnswersCall x c.args.self.now.grip.number c.args.batch verdict c.accept.new.self)) c.as_mut.ensures.value c.accept.ensures.ok
