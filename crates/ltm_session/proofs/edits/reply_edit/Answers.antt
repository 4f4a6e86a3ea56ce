use Rattle.std.proofs.Common.{rules, ◌≡◌, List, ℕ, ◌∙◌, ap, ◌++◌}
use Rattle.ltm_report.specs.EditFaults.{edit_fault_line}
use Rattle.ltm_session.proofs.Looking.{batch_grows, refused_edits, on_ok, cut_back}
use Rattle.ltm_session.proofs.edits.reply_edit.Goals as goal

pub returns-in-Ok-clause-grows : goal.returns-in-Ok-clause-grows
returns-in-Ok-clause-grows c = batch_grows c.args.core.now c.make_edits.new.core c.args.batch c.lists_tell_all.ensures c.in-Ok.ensures.ok

pub returns-in-Err-clause-ok : goal.returns-in-Err-clause-ok
returns-in-Err-clause-ok c =
    let back : c.truncate.new.self.items ≡ c.args.into.now.items =
    cut_back c.args.into.now.items c.accepted_text.new.into.items c.truncate.new.self.items _ c.len-before.result (search rules) c.in_ok-accepted_text.ensures.ok c.truncate.ensures.items in
    on_ok c.push_refusal.result _ _
    (λ h. (
      edit_fault_line c.in-Err.fault,
      refused_edits c.args.core.now c.make_edits.new.core c.args.batch c.in-Err.fault c.in-Err.ensures.err (c.in-Err.ensures.cause h.0),
      h.1 ∙ ap (λ (xs : List ℕ). xs ++ edit_fault_line c.in-Err.fault) back,
    ))
    c.push_refusal.ensures.ok
