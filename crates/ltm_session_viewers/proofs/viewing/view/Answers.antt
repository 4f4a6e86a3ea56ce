use Rattle.std.proofs.Common.{ℕ, List, subst}
use Rattle.std.specs.Prelude.{Option}
use Rattle.ltm_session.specs.Analysts.{state_of, opening_of}
use Rattle.ltm_session.proofs.Opening.{awaits_first, opens}
use Rattle.ltm_session_viewers.specs.View.{IsView}
use Rattle.ltm_session_viewers.proofs.Closing.{never_viewed, view_ends}
use Rattle.ltm_session_viewers.proofs.viewing.view.Goals as goal

pub view_from-boards-requires-clause-set : goal.view_from-boards-requires-clause-set
view_from-boards-requires-clause-set g c κs within = record {
  fresh = opens c.args.core.now c.facts.ensures c.requires.fresh;
  awaits = awaits_first c.args.core.now c.facts.ensures c.requires.fresh;
  posted = c.in-Ok.ensures.lists;
  unread = c.in-Ok.ensures.unread;
}

pub returns-in-Ok-clause-view : goal.returns-in-Ok-clause-view
returns-in-Ok-clause-view g c =
    let v = c.view_from-boards.ensures.view in (
      v.output,
      subst (λ (n : ℕ). IsView n (opening_of c.args.core.now) (g.S.Source.left c.args.source.now) (g.S.Source.left c.view_from-boards.new.source) c.view_from-boards.result.1 v.output (state_of c.view_from-boards.new.core)) c.in-Ok.ensures.hooks.1 v.view,
      v.wrote,
    )

pub returns-in-Ok-clause-end : goal.returns-in-Ok-clause-end
returns-in-Ok-clause-end g c =
    let (output, so, wrote) = returns-in-Ok-clause-view g c in λ script is read write memory.
    view_ends c.args.viewers (opening_of c.args.core.now) script output (g.S.Source.left c.view_from-boards.new.source) c.view_from-boards.result.1 (state_of c.view_from-boards.new.core)
    (subst (λ (told : Option (List ℕ)). IsView c.args.viewers (opening_of c.args.core.now) told (g.S.Source.left c.view_from-boards.new.source) c.view_from-boards.result.1 output (state_of c.view_from-boards.new.core)) is so) read write memory

pub returns-in-Err-clause-view : goal.returns-in-Err-clause-view
returns-in-Err-clause-view g c =
    let v = never_viewed c.args.viewers c.args.core.now (g.S.Source.left c.args.source.now) (g.S.Source.left c.args.source.now) (g.W.Sink.written c.args.sink.now) (opens c.args.core.now c.facts.ensures c.requires.fresh) in
    (v.output, v.view, v.wrote)
