-- What contracts see of a board, its viewer and its notes.
use Rattle.std.specs.Prelude.{ℕ, List, [], Option, Some, None}
use Rattle.ltm_units.specs.declared.quantities.Units.{Units}
use Rattle.ltm_board.specs.Sheets.{SheetData, links_on}
use Rattle.ltm_board.specs.Lists.{PostData, entries_of_posts, links_told, opening_of}
use Rattle.ltm_board.specs.Panels.{posts_of}
use Rattle.ltm_board.specs.declared.note.Note.{Note}

-- the posts of a board, from the opening scenario on, and the sheet that was posted last
pub record BoardData : Type 0 where
  pub list : List PostData
  pub sheet : SheetData

-- the opening of its board; the lists that a viewer read, and those of the notes that it learnt, the newest first
pub record ViewerData : Type 0 where
  pub opening : List PostData
  pub known : List (List PostData)

abbrev pub board_list : BoardData → List PostData
board_list b = b.list

abbrev pub board_sheet : BoardData → SheetData
board_sheet b = b.sheet

-- the list that was published when a note was made
abbrev pub note_list : Note → List PostData
note_list n = posts_of n.panel.now

abbrev pub viewer_lists : ViewerData → List (List PostData)
viewer_lists v = v.known

-- ---- the opening, the first post of each list
abbrev pub board_opening : BoardData → List PostData
board_opening b = opening_of b.list

abbrev pub viewer_opening : ViewerData → List PostData
viewer_opening v = v.opening

abbrev pub note_opening : Note → List PostData
note_opening n = opening_of (note_list n)

-- ---- how many links there are
abbrev pub board_links : BoardData → ℕ
board_links b = links_on b.sheet

abbrev pub viewer_links : ViewerData → ℕ
viewer_links v = links_told (entries_of_posts v.opening)

-- ---- while nothing is shown
-- what is there, if anything is
abbrev pub of_some : {X Y : Type 0} → Y → (X → Y) → Option X → Y
of_some none f (Some x) = f x
of_some none f None = none

abbrev pub nothing : Units
nothing = record { 0 = 0 }

abbrev pub no_sheet : SheetData
no_sheet = record { totals = record { generated = nothing; arrived = nothing; on_links = nothing; waiting = nothing }; through = [] }
