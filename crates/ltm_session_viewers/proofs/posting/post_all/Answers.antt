use Rattle.std.proofs.Common.{◌≡◌, ◌++◌, sym, subst}
use Rattle.std.specs.Prelude.{Option, IfSome}
use Rattle.ltm_board.specs.Lists.{entries_of_posts, entries_of_batches}
use Rattle.ltm_board.specs.Boards.{BoardData, board_list}
use Rattle.ltm_session_viewers.proofs.Posts.{grown}
use Rattle.ltm_session_viewers.proofs.Told.{on_ok_map}
use Rattle.ltm_session_viewers.proofs.posting.post_all.Goals as goal

pub returns-in-Some-clause-ok : goal.returns-in-Some-clause-ok
returns-in-Some-clause-ok g c =
    let list = entries_of_posts (board_list c.args.boards.now.first) in
    let second = subst (λ (o : Option BoardData). IfSome o (λ b. entries_of_posts (board_list b) ≡ list)) c.in-Some.is c.requires.alike.1 in
    on_ok_map c.post-in-Some.result _ _
    (λ posted. (grown c.args.boards.now.first c.post.new.self list (entries_of_batches c.args.batches.now) c.in_ok-post.ensures.list c.requires.alike.0, grown c.in-Some.board c.post-in-Some.new.self list (entries_of_batches c.args.batches.now) posted second))
    c.post-in-Some.ensures.list

pub returns-in-None-clause-ok : goal.returns-in-None-clause-ok
returns-in-None-clause-ok g c =
    let list = entries_of_posts (board_list c.args.boards.now.first) in (
      grown c.args.boards.now.first c.post.new.self list (entries_of_batches c.args.batches.now) c.in_ok-post.ensures.list c.requires.alike.0,
      subst (λ (o : Option BoardData). IfSome o (λ b. entries_of_posts (board_list b) ≡ list ++ entries_of_batches c.args.batches.now)) (sym c.in-None.is) tt,
    )
