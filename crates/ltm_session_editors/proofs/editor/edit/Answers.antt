use Rattle.std.proofs.Common.{◌≡◌, ◌∷◌, ◌∙◌, sym, ap, length, arith}
use Rattle.std.specs.Vec.Iter.{into_iter_items}
use Rattle.ltm_scenario.specs.Edits.{HaveAmounts}
use Rattle.ltm_session_editors.proofs.Calls.{ok_so, one_made, all_split}
use Rattle.ltm_session_editors.proofs.editor.edit.Goals as goal

pub loop-batch-preserved : goal.loop-batch-preserved
loop-batch-preserved g c =
    let l = c.loop-batch in let x = c.in-Some.batch in
    let steps : into_iter_items l.batch-iterator ≡ x ∷ into_iter_items c.next.new.self = c.in-Some.ensures.steps.0 in
    let number = ap (λ p. p.number) l.invariant.place in
    let put = ok_so c.call-after.result.1 _ (sym c.is_err.ensures.value ∙ c.if-is_err.false) (rw number at c.call-after.ensures.put) in record {
      place = c.call-after.ensures.place ∙ l.invariant.place;
      calls = one_made _ _ x (into_iter_items c.next.new.self) (into_iter_items l.batch-iterator) c.args.script _ steps l.invariant.calls put;
      amounts = (all_split HaveAmounts (into_iter_items l.batch-iterator) x (into_iter_items c.next.new.self) steps l.invariant.amounts).1;
      count = let was = l.invariant.count in let gone = c.in-Some.ensures.steps.1 in let short = ap (λ xs. length xs) steps in omega (arith, was, gone, short);
    }
