use Rattle.std.proofs.Common.{◌∙◌}
use Rattle.ltm_session_workers.proofs.Known.{session_served, session_later, script_read}
use Rattle.ltm_session_workers.proofs.crew.edit.Goals as goal

pub returns : goal.returns
returns g c =
    let before = c.serve_lines-beside.ensures in let after = c.stop_beside-editor.ensures in record {
      turn = (after.turn.0, after.turn.1 ∙ before.keeps.1);
      session = session_later _ _ _ _ _ _ _ _ _ _ _ (session_served _ _ _ _ _ _ _ _ _ before.serves) after.list after.seen;
      read_fault = before.read_fault;
      write_fault = before.write_fault;
      read = script_read _ _ _ _ _ _ _ _ _ before.serves;
      later = before.later;
    }
