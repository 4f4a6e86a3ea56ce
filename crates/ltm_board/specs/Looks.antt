-- What a read finds.
use Rattle.std.specs.Prelude.{◌≡◌, ◌+◌, List, length}
use mathlib.Core.List.{IsPrefix}
use Rattle.ltm_board.specs.Sheets.{SheetData}
use Rattle.ltm_board.specs.Lists.{PostData, entries_of_posts, IsSheetAfter}
use Rattle.ltm_board.specs.Panels.{posts_of}
use Rattle.ltm_board.specs.declared.looking.Found.{Found}

-- from the posts `before`, who read came to `now`, which begin with those, and has their sheet and how many batches they are
pub record HasRead (before now : List PostData) (found : Found) (sheet : SheetData) : Type 0 where
  pub begins : IsPrefix before now
  pub posts : posts_of found.panel.value ≡ now
  pub count : found.count + 1 ≡ length (entries_of_posts now)
  pub right : IsSheetAfter (entries_of_posts now) sheet
