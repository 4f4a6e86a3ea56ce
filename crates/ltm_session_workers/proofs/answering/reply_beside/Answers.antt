use Rattle.ltm_turn.specs.Passes.{editor_value}
use Rattle.ltm_session_workers.proofs.Known.{held_between, replied_with, failed_with, grown_list}
use Rattle.ltm_session_workers.proofs.answering.reply_beside.Goals as goal

pub give_editor-editor-requires-clause-list : goal.give_editor-editor-requires-clause-list
give_editor-editor-requires-clause-list g c =
    grown_list _ _ (editor_value c.take_editor-held.result) c.get_mut.result.now c.reply_held-done.new.core c.get_mut.ensures.value c.take_editor-held.ensures.list.0 c.take_editor-held.ensures.list.1 c.reply_held-done.ensures.grows

pub returns-clause-ok : goal.returns-clause-ok
returns-clause-ok g c =
    let held = held_between (editor_value c.take_editor-held.result) c.get_mut.result.now c.reply_held-done.new.core _ _ _ _ c.get_mut.ensures.value c.take_editor-held.ensures.list.0 c.take_editor-held.ensures.number.0
    c.reply_held-done.ensures.told c.reply_held-done.ensures.finished c.give_editor-editor.ensures.list c.give_editor-editor.ensures.number in
    replied_with c.lists_tell_all.ensures c.get_mut.result.now c.reply_held-done.new.core c.args.command _ _ _ _ _ _ _ held c.reply_held-done.ensures.ok

pub returns-clause-err : goal.returns-clause-err
returns-clause-err g c =
    let held = held_between (editor_value c.take_editor-held.result) c.get_mut.result.now c.reply_held-done.new.core _ _ _ _ c.get_mut.ensures.value c.take_editor-held.ensures.list.0 c.take_editor-held.ensures.number.0
    c.reply_held-done.ensures.told c.reply_held-done.ensures.finished c.give_editor-editor.ensures.list c.give_editor-editor.ensures.number in
    failed_with c.lists_tell_all.ensures c.get_mut.result.now c.reply_held-done.new.core _ _ _ _ _ _ _ held c.reply_held-done.ensures.shown c.reply_held-done.ensures.err
