use Rattle.std.proofs.Common.{rules, ◌≡◌, ◌++◌, List, sym, subst}
use Rattle.ltm_scenario.specs.declared.edit.Edit.{Edit}
use Rattle.ltm_board.specs.Sheets.{SheetData}
use Rattle.ltm_board.specs.Lists.{PostData, entries_of_posts, entries_of_batches, IsSheetAfter}
use Rattle.ltm_board.specs.Panels.{posts_of}
use Rattle.ltm_board.proofs.Right.{sheet_after}
use Rattle.ltm_board.proofs.board.Board.post.Goals as goal

pub post_on-writer-requires-clause-sheet : goal.post_on-writer-requires-clause-sheet
post_on-writer-requires-clause-sheet g c =
    let sheet : SheetData = c.in_ok-sheet.sheet in
    let list : List PostData = c.args.self.now.list in
    let batches : List (List Edit) = c.args.batches.now in
    let same : list ≡ posts_of c.in-Some-take.writer.desk.shown.value = search rules in
    let right : IsSheetAfter (entries_of_posts list ++ entries_of_batches batches) sheet = sheet_after (entries_of_posts list ++ entries_of_batches batches) c.args.scenario.now c.args.loading.now sheet c.requires.leads c.requires.loading c.in_ok-sheet.ensures in
    subst (λ (l : List PostData). IsSheetAfter (entries_of_posts l ++ entries_of_batches c.in_ok-copied.copied.items) sheet) same
    (subst (λ (b : List (List Edit)). IsSheetAfter (entries_of_posts list ++ entries_of_batches b) sheet) (sym c.in_ok-copied.ensures) right)
