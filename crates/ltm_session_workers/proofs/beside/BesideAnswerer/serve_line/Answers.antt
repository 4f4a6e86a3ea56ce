use Rattle.std.proofs.Common.{◌∙◌, sym}
use Rattle.ltm_turn.specs.Passes.{editor_list, editor_seen}
use Rattle.ltm_session.proofs.OneMachine.{whenever}
use Rattle.ltm_session_workers.proofs.Known.{answered_beside, stopped_beside}
use Rattle.ltm_session_workers.proofs.beside.BesideAnswerer.serve_line.Goals as goal

pub line_beside-editor-requires : goal.line_beside-editor-requires
line_beside-editor-requires g c = c.requires

pub returns : goal.returns
returns g c = record {
  ok = answered_beside c.args.line.now (editor_list c.args.self.editor) (editor_list c.line_beside-editor.result.0) (editor_seen c.args.self.editor)
      (editor_seen c.line_beside-editor.result.0) _ _ c.line_beside-editor.result.2 c.line_beside-editor.ensures.ok;
  err = stopped_beside c.args.line.now (editor_list c.args.self.editor) (editor_list c.line_beside-editor.result.0) (editor_seen c.args.self.editor)
      (editor_seen c.line_beside-editor.result.0) _ _ c.line_beside-editor.result.2 c.line_beside-editor.ensures.err c.line_beside-editor.ensures.which;
  awaits = whenever c.line_beside-editor.result.2 c.line_beside-editor.ensures.turn.0;
  keeps = (c.line_beside-editor.ensures.turn.0 ∙ sym c.requires, c.line_beside-editor.ensures.turn.1);
  later = c.line_beside-editor.ensures.later;
  fault = c.line_beside-editor.ensures.fault;
}
