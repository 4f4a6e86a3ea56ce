use Rattle.std.proofs.Common.{◌+◌, ◌-◌, ◌∙◌, arith, sym, inl, inr, ⊎_elim, take, drop}
use Rattle.std.proofs.lemmas.List.Elements.{All-push}
use Rattle.ltm_io.specs.Script.{lines_of}
use Rattle.ltm_scenario.specs.Edits.{HaveAmounts}
use Rattle.ltm_session_editors.specs.Scripts.{batch_at, script_of}
use Rattle.ltm_session_editors.proofs.Each.{one_given, fault_given, all_given}
use Rattle.ltm_session_editors.proofs.Cut.{cut_at, fits_rest, none_left}
use Rattle.ltm_session_editors.proofs.reading.read_script.Goals as goal

pub returns-in-Err-clause-fault : goal.returns-in-Err-clause-fault
unfolding script_of
returns-in-Err-clause-fault c =
    let l = c.loop-at in let text = c.args.text.now in let n = c.line_len.result in
    ⊎_elim (λ none. inl none)
    (λ is. inr (sym l.invariant.given ∙ fault_given (batch_at c.args.editor) l.batches.items l.line (lines_of (drop l.at text)) (take (l.at + n - l.at) (drop l.at text)) (lines_of (drop (l.at + n + 1) text)) c.in-Err.fault
    (cut_at text l.at n c.loop-at-test.true c.line_len.ensures.first) is)) c.in-Err.ensures.fault

pub loop-at-preserved : goal.loop-at-preserved
loop-at-preserved c =
    let l = c.loop-at in let text = c.args.text.now in let n = c.line_len.result in
    let items = rw c.if-is_err.ensures.negation at c.push.ensures.items in record {
      number = let before = l.invariant.number in omega (arith, before);
      within = fits_rest text l.at n c.loop-at-test.true c.line_len.ensures.within;
      amounts = rw items (All-push HaveAmounts l.batches.items c.in-Ok.batch l.invariant.amounts c.in-Ok.ensures.amounts);
      given = rw items (one_given (batch_at c.args.editor) l.batches.items l.line (lines_of (drop l.at text)) (take (l.at + n - l.at) (drop l.at text)) (lines_of (drop (l.at + n + 1) text)) c.in-Ok.batch
          (cut_at text l.at n c.loop-at-test.true c.line_len.ensures.first) c.in-Ok.ensures.ok ∙ l.invariant.given);
    }

pub returns-clause-ok : goal.returns-clause-ok
unfolding script_of
returns-clause-ok c =
    let l = c.loop-at in let text = c.args.text.now in
    sym l.invariant.given ∙ all_given (batch_at c.args.editor) l.batches.items l.line (lines_of (drop l.at text)) (none_left text l.at c.loop-at-test.false)
