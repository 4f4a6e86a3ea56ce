use Rattle.ltm_turn.specs.Passes.{editor_value}
use Rattle.ltm_workers.proofs.Editing.{kept_list, left_list, stopped_told}
use Rattle.ltm_workers.proofs.editor_turns.stop_beside.Goals as goal

pub give_editor-editor-requires-clause-list : goal.give_editor-editor-requires-clause-list
give_editor-editor-requires-clause-list g c =
    kept_list _ _ (editor_value c.take_editor-held.result) c.get_mut.result.now c.stop.new.self c.get_mut.ensures.value c.take_editor-held.ensures.list.0 c.take_editor-held.ensures.list.1 (stopped_told c.get_mut.result.now c.stop.new.self c.stop.ensures.only)

pub returns-clause-list : goal.returns-clause-list
returns-clause-list g c =
    left_list _ _ (editor_value c.take_editor-held.result) c.get_mut.result.now c.stop.new.self c.give_editor-editor.ensures.list (stopped_told c.get_mut.result.now c.stop.new.self c.stop.ensures.only) c.get_mut.ensures.value c.take_editor-held.ensures.list.0
