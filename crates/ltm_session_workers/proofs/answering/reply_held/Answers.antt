use Rattle.ltm_session_workers.proofs.Known.{reply_leaves}
use Rattle.ltm_session_workers.proofs.answering.reply_held.Goals as goal

pub returns-clause-shown : goal.returns-clause-shown
returns-clause-shown c =
    reply_leaves c.args.core.now c.reply-done.new.core c.args.command _ _ c.reply-done.result c.reply-done.ensures.ok c.reply-done.ensures.err

pub returns-clause-told : goal.returns-clause-told
returns-clause-told c = (
  c.lists_tell_all.ensures.log c.args.core.now c.facts.ensures.came,
  c.lists_tell_all.ensures.log c.reply-done.new.core c.facts-2.ensures.came,
)
