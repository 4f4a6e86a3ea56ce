use Rattle.std.proofs.Common.{ap, ◌∙◌}
use Rattle.ltm_core.specs.Told.{told_of}
use Rattle.ltm_turn.specs.Passes.{editor_value}
use Rattle.ltm_workers.proofs.Editing.{kept_list, marked_list, settles_between}
use Rattle.ltm_workers.proofs.editor_turns.count_as_editor.Goals as goal

pub give_editor-requires-clause-list : goal.give_editor-requires-clause-list
give_editor-requires-clause-list g c =
    marked_list _ _ (editor_value c.take_editor-held.result) c.get_mut.result.now c.count_commits.new.core c.get_mut.ensures.value c.take_editor-held.ensures.list.0 c.take_editor-held.ensures.list.1 c.in-Some.ensures.told

pub give_editor-requires-in-None-clause-list : goal.give_editor-requires-in-None-clause-list
give_editor-requires-in-None-clause-list g c =
    kept_list _ _ (editor_value c.take_editor-held.result) c.get_mut.result.now c.count_commits.new.core c.get_mut.ensures.value c.take_editor-held.ensures.list.0 c.take_editor-held.ensures.list.1
    (ap told_of (c.count_commits.ensures.none c.in-None.is))

pub returns-in-Some-clause-some : goal.returns-in-Some-clause-some
returns-in-Some-clause-some g c =
    let had = ap told_of c.get_mut.ensures.value ∙ c.take_editor-held.ensures.list.0 in
    settles_between _ _ _ _ _ _ _ _ had c.give_editor.ensures.list c.give_editor.ensures.number c.in-Some.ensures.settles

pub returns-in-None-clause-none : goal.returns-in-None-clause-none
returns-in-None-clause-none g c = λ _.
    c.give_editor-in-None.ensures.list ∙ ap told_of (c.count_commits.ensures.none c.in-None.is ∙ c.get_mut.ensures.value) ∙ c.take_editor-held.ensures.list.0
