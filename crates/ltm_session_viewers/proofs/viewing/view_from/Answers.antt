use Rattle.std.proofs.Common.{subst}
use Rattle.std.specs.Prelude.{Option}
use Rattle.ltm_session.specs.Analysts.{state_of}
use Rattle.ltm_session_viewers.specs.Hung.{Hook, board_hooks, how_many}
use Rattle.ltm_session_viewers.specs.Serving.{TellsLast}
use Rattle.ltm_session_viewers.proofs.Closing.{told_last, stopped}
use Rattle.ltm_session_viewers.proofs.viewing.view_from.Goals as goal

pub returns-in-Ended-clause-view : goal.returns-in-Ended-clause-view
returns-in-Ended-clause-view g c =
    let count = how_many (board_hooks c.args.stage.boards) in
    let told = g.S.Source.left c.args.source.now in
    let left = g.S.Source.left c.serve_watched-boards.new.source in
    let old = g.W.Sink.written c.args.sink.now in
    let mid = g.W.Sink.written c.serve_watched-boards.new.sink in
    let new = g.W.Sink.written c.push_last-told.new.sink in
    let serves = c.serve_watched-boards.ensures.serves in
    let tells = subst (λ (hooks : Hook × Option Hook). TellsLast (how_many hooks) (state_of c.serve_watched-boards.new.core) c.push_last-told.result mid new) serves.hooks c.push_last-told.ensures.tells in
    told_last count c.args.core.now c.serve_watched-boards.new.core told left c.push_last-told.result old mid new (rw c.in-Ended.is at serves.script) tells

pub returns-in_default-clause-view : goal.returns-in_default-clause-view
returns-in_default-clause-view g c =
    stopped (how_many (board_hooks c.args.stage.boards)) c.args.core.now c.serve_watched-boards.new.core (g.S.Source.left c.args.source.now) (g.S.Source.left c.serve_watched-boards.new.source)
    c.serve_watched-boards.result.1 (g.W.Sink.written c.args.sink.now) (g.W.Sink.written c.serve_watched-boards.new.sink) c.serve_watched-boards.ensures.serves.script c.in_default.not-Ended
