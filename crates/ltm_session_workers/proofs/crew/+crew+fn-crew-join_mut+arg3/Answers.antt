use Rattle.std.proofs.iter.Serving.{serving}
use Rattle.std.proofs.Common.{rules, ◌≡◌, ◌+◌, ◌-◌, ◌≤◌, ◌∙◌, arith}
use Rattle.ltm_turn.specs.Passes.{turn_id, editor_turn, worker_turn, editor_list, editor_seen, editor_workers}
use Rattle.ltm_session_workers.proofs.Known.{session_between}
use Rattle.ltm_session_workers.proofs.crew.+crew+fn-crew-join_mut+arg3.Goals as goal

pub returns-clause-session : goal.returns-clause-session
returns-clause-session g t c =
    session_between _ _ _ _ _ _ (editor_list c.split-pass.new.editor) (editor_list c.join_mut-worker.result.1.0) _ _ (editor_seen c.split-pass.new.editor) (editor_seen c.join_mut-worker.result.1.0) _
    c.split-pass.ensures.editor.0 c.split-pass.ensures.editor.1 (search rules) (search rules) (search rules)

pub join_mut-worker-requires-after_bounds : goal.join_mut-worker-requires-after_bounds
join_mut-worker-requires-after_bounds g t c κs within =
    let room : editor_workers c.split-pass.new.editor + (c.args.workers - 1) ≤ 64 = omega (arith, c.requires.room, c.if-workers-eq0.false, c.split-pass.ensures.workers) in
    let his : worker_turn c.split-pass.result ≡ turn_id c.args.place.now.turn.now = c.split-pass.ensures.turn.1 ∙ c.requires.turn in
    let mine : editor_turn c.split-pass.new.editor ≡ turn_id c.args.place.now.turn.now = c.split-pass.ensures.turn.0 ∙ c.requires.turn in
    grind (serving, room, his, mine)
