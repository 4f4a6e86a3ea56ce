use Rattle.ltm_turn.specs.Passes.{editor_value}
use Rattle.ltm_workers.proofs.Editing.{kept_list}
use Rattle.ltm_workers.proofs.editor_turns.show_as_editor.Goals as goal

pub give_editor-requires-clause-list : goal.give_editor-requires-clause-list
give_editor-requires-clause-list g c =
    kept_list _ _ (editor_value c.take_editor-held.result) c.get_mut.result.now c.show_counts.new.core c.get_mut.ensures.value c.take_editor-held.ensures.list.0 c.take_editor-held.ensures.list.1 c.show_counts.ensures.told
