use Rattle.std.proofs.Common.{◌≡◌, List, length, arith, subst}
use mathlib.Core.List.{IsPrefix}
use Rattle.ltm_board.specs.Lists.{PostData, entries_of_posts, IsSheetAfter}
use Rattle.ltm_board.specs.Begins.{BeginsWith}
use Rattle.ltm_board.specs.Known.{newest}
use Rattle.ltm_board.specs.Boards.{board_list, viewer_lists}
use Rattle.ltm_session_viewers.proofs.Posts.{same_joined}
use Rattle.ltm_session_viewers.proofs.watching.look_last.Goals as goal

pub returns-else-read-count-clause-sheet : goal.returns-else-read-count-clause-sheet
returns-else-read-count-clause-sheet g c =
    let own = board_list c.args.board.now in
    let list = newest (viewer_lists c.read-read.new.self) in
    let knows : BeginsWith list (viewer_lists c.learn.new.self) = c.read-read.ensures.begins in
    let knows_note = subst (λ (ls : List (List PostData)). BeginsWith list ls) c.learn.ensures.lists knows in
    let up : IsPrefix own list = subst (λ (l : List PostData). IsPrefix l list) c.note.ensures knows_note.0 in
    let same : c.read-read.result ≡ c.sheet-count.result = omega (arith, c.if-read-count.false) in
    let there = c.read-read.ensures.count in
    let here = c.sheet-count.ensures.count in
    let long : length (entries_of_posts list) ≡ length (entries_of_posts own) = omega (arith, same, there, here) in
    subst (λ l. IsSheetAfter l c.read-read.new.into) (same_joined own list up long) c.read-read.ensures.sheet
