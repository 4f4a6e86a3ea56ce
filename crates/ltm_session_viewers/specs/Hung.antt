-- The boards on which a session's loadings are posted, and the viewers at them.
use Rattle.std.specs.Prelude.{◌≡◌, ℕ, List, take, Option, Some, None, option_map, IfSome}
use Rattle.ltm_flows.specs.Shown.{version_of}
use Rattle.ltm_core.specs.declared.entry.LogEntry.{LogEntry}
use Rattle.ltm_core.specs.Log.{Log, batches_of}
use Rattle.ltm_core.specs.Cores.{CoreData}
use Rattle.ltm_board.specs.Lists.{PostData, list_of, entries_of_posts}
use Rattle.ltm_board.specs.Boards.{BoardData, board_opening, board_list, board_links, viewer_opening, viewer_links}
use Rattle.ltm_session_viewers.specs.declared.boards.Boards.{Boards}
use Rattle.ltm_session_viewers.specs.declared.watch.Watch.{Watch}
use Rattle.ltm_session_viewers.specs.declared.watches.Watches.{Watches}

-- ---- what a board opened with, and how many links it tells of
abbrev pub Hook : Type 0
Hook = List PostData × ℕ

abbrev pub board_hook : BoardData → Hook
board_hook b = (board_opening b, board_links b)

abbrev pub watch_hook : Watch → Hook
watch_hook w = (viewer_opening w.viewer, viewer_links w.viewer)

abbrev pub board_hooks : Boards → Hook × Option Hook
board_hooks boards = (board_hook boards.first, option_map board_hook boards.second)

abbrev pub watch_hooks : Watches → Hook × Option Hook
watch_hooks watches = (watch_hook watches.first, option_map watch_hook watches.second)

-- how many there are
abbrev pub one_or_two : Option Hook → ℕ
one_or_two None = 1
one_or_two (Some hook) = 2

abbrev pub how_many : Hook × Option Hook → ℕ
how_many hooks = one_or_two hooks.1

-- ---- what was posted
-- the opening scenario and the first so many batches of a log
abbrev pub first_of : Log → ℕ → List LogEntry
first_of log k = list_of log.opening (take k (batches_of log))

-- the list whose loading a core shows
abbrev pub shown_list : CoreData → List LogEntry
shown_list d = first_of d.log (version_of d.shown)

-- the posts of each board put this list
abbrev pub AllHave : Boards → List LogEntry → Type 0
AllHave boards list = (entries_of_posts (board_list boards.first) ≡ list) × IfSome boards.second (λ b. entries_of_posts (board_list b) ≡ list)
