use Rattle.ltm_core.specs.CoreAnswers.{answer_in}
use Rattle.ltm_turn.specs.Passes.{editor_value}
use Rattle.ltm_workers.proofs.Editing.{kept_list, left_list, claim_told}
use Rattle.ltm_workers.proofs.editor_turns.claim_as_editor.Goals as goal

pub give_editor-requires-clause-list : goal.give_editor-requires-clause-list
give_editor-requires-clause-list g c =
    kept_list _ _ (editor_value c.take_editor-held.result) c.get_mut.result.now c.claim-claimed.new.self c.get_mut.ensures.value c.take_editor-held.ensures.list.0 c.take_editor-held.ensures.list.1 (claim_told c.lists_tell_all.ensures _ _ (answer_in c.claim-claimed.result) c.claim-claimed.ensures.keeps c.claim-claimed.ensures.adds)

pub returns-clause-list : goal.returns-clause-list
returns-clause-list g c =
    left_list _ _ (editor_value c.take_editor-held.result) c.get_mut.result.now c.claim-claimed.new.self c.give_editor.ensures.list (claim_told c.lists_tell_all.ensures _ _ (answer_in c.claim-claimed.result) c.claim-claimed.ensures.keeps c.claim-claimed.ensures.adds) c.get_mut.ensures.value c.take_editor-held.ensures.list.0
