use Rattle.std.proofs.Common.{◌≡◌, [], List, ap, ◌∙◌}
use Rattle.left_right.specs.Sides.{view}
use Rattle.ltm_board.specs.Sheets.{SheetData, links_on}
use Rattle.ltm_board.specs.Lists.{PostData, list_of, entries_of_posts, links_told, opening_posts, IsSheetAfter}
use Rattle.ltm_board.proofs.Right.{opens_itself, sheet_after, links_opening, told_opening}
use Rattle.ltm_board.proofs.board.Board.create.Goals as goal

pub open-requires-clause-right : goal.open-requires-clause-right
open-requires-clause-right g c =
    let s = c.args.opening.now in
    sheet_after (list_of s []) s c.args.loading.now c.in_ok-sheet.sheet (opens_itself s) c.requires c.in_ok-sheet.ensures

pub returns-in-Ok-clause-links : goal.returns-in-Ok-clause-links
returns-in-Ok-clause-links g c =
    let s = c.args.opening.now in
    let sheet : SheetData = c.in_ok-sheet.sheet in
    let right : IsSheetAfter (list_of s []) sheet = sheet_after (list_of s []) s c.args.loading.now sheet (opens_itself s) c.requires c.in_ok-sheet.ensures in
    let seen : (view c.in-Ok.reader.place).seen ≡ opening_posts s = c.in-Ok.ensures.seen ∙ c.in_ok-writer.ensures.seen in (
      ap (λ d. links_on d.value.sheet) c.in-Ok.ensures.writer.0 ∙ (ap links_on c.in_ok-writer.ensures.sheet ∙ links_opening c.edits_make.ensures s sheet right),
      ap (λ (l : List PostData). links_told (entries_of_posts l)) c.of-viewer.ensures.opening ∙ told_opening s (view c.in-Ok.reader.place).seen seen,
    )
