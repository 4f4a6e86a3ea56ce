use Rattle.std.proofs.Common.{[], ◌∷◌, ◌∙◌, arith, ap, sym, inl, inr, ⊎_elim, length, length-append}
use Rattle.std.specs.Prelude.{All}
use Rattle.std.proofs.lemmas.List.Elements.{All-push}
use Rattle.ltm_scenario.specs.Edits.{HaveAmounts}
use Rattle.ltm_session_editors.specs.Scripts.{script_of}
use Rattle.ltm_session_editors.proofs.Each.{one_more, first_fault, all_done}
use Rattle.ltm_session_editors.proofs.reading.read_scripts.Goals as goal

pub returns-in-Err-clause-fault : goal.returns-in-Err-clause-fault
returns-in-Err-clause-fault c =
    let l = c.loop-text in
    ⊎_elim (λ none. inl none)
    (λ is. inr (sym l.invariant.given ∙ first_fault script_of l.scripts.items l.editor c.args.texts.now l.text-index c.text-item.result c.in-Err.fault c.loop-text-test.true c.text-item.is (rw c.bytes.ensures.bytes at is))) c.in-Err.ensures.fault

pub loop-text-preserved : goal.loop-text-preserved
loop-text-preserved c =
    let l = c.loop-text in
    let items = rw c.if-is_err.ensures.negation at c.push.ensures.items in
    let few = ap (λ xs. length xs) items in record {
      number = omega arith;
      count = let now = l.invariant.count in omega (arith, few, now, length-append l.scripts.items (c.in-Ok.script ∷ []));
      amounts = rw items (All-push (All HaveAmounts) l.scripts.items c.in-Ok.script l.invariant.amounts c.in-Ok.ensures.amounts);
      given = rw items (one_more script_of l.scripts.items l.editor c.args.texts.now l.text-index c.text-item.result c.in-Ok.script c.loop-text-test.true c.text-item.is (rw c.bytes.ensures.bytes at c.in-Ok.ensures.ok) ∙ l.invariant.given);
    }

pub returns-clause-ok : goal.returns-clause-ok
returns-clause-ok c =
    let l = c.loop-text in
    sym l.invariant.given ∙ all_done script_of l.scripts.items l.editor c.args.texts.now l.text-index c.loop-text-test.false
