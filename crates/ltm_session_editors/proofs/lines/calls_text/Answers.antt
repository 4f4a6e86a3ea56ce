use Rattle.std.proofs.Common.{arith}
use Rattle.ltm_session_editors.proofs.Calls.{one_line, all_lines}
use Rattle.ltm_session_editors.proofs.lines.calls_text.Goals as goal

pub loop-call-preserved : goal.loop-call-preserved
loop-call-preserved c =
    let l = c.loop-call in record {
      number = omega arith;
      written = one_line _ _ l.place c.args.calls.now l.call-index c.call-item.result _ c.loop-call-test.true c.call-item.is c.in_ok-push_call.ensures l.invariant.written;
    }

pub returns : goal.returns
returns c = let l = c.loop-call in all_lines l.text.items l.place c.args.calls.now l.call-index _ c.loop-call-test.false l.invariant.written
