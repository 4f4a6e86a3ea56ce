use Rattle.std.proofs.Common.{◌≡◌, ◌≤◌, length, sym, ◌∙◌, arith}
use Rattle.ltm_scenario.specs.declared.edit.Edit.{Edit}
use Rattle.ltm_scenario.specs.Edits.{amount_of}
use Rattle.ltm_units.specs.Bounds.{most_amount}
use Rattle.std.proofs.lemmas.List.Elements.{All-push}
use Rattle.ltm_script.proofs.Placed.{one_more, bad_edit, all_edits}
use Rattle.ltm_script.proofs.edits.read_edits.Goals as goal

pub returns-in-Ok-None-clause-edits : goal.returns-in-Ok-None-clause-edits
returns-in-Ok-None-clause-edits c =
    let l = c.loop-value in
    sym l.invariant.2 ∙ bad_edit l.edits.items c.args.values.now l.value-index l.place c.value-item.result (omega arith) c.value-item.is (rw c.in-Ok-None.field-0-is at c.in-Ok-None.ensures.edit)

pub loop-value-preserved : goal.loop-value-preserved
loop-value-preserved c =
    let l = c.loop-value in
    let items = rw c.if-is_err.ensures.negation at c.push.ensures.items in (
      omega arith,
      rw items (All-push (λ (edit : Edit). amount_of edit ≤ most_amount) l.edits.items c.in-Ok-Some.edit l.invariant.1 (rw c.in-Ok-Some.field-0-is at c.in-Ok-Some.ensures.small)),
      rw items (one_more l.edits.items c.args.values.now l.value-index l.place c.value-item.result c.in-Ok-Some.edit (omega arith) c.value-item.is (rw c.in-Ok-Some.field-0-is at c.in-Ok-Some.ensures.edit) ∙ l.invariant.2),
    )

pub returns-clause-edits : goal.returns-clause-edits
returns-clause-edits c =
    let l = c.loop-value in
    let last : l.value-index ≡ length c.args.values.now = omega arith in
    sym l.invariant.2 ∙ rw last (all_edits l.edits.items c.args.values.now l.place)
