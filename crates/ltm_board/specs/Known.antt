-- The lists that a viewer knows.
use Rattle.std.specs.Prelude.{◌≡◌, true, List, [], ◌∷◌}
use Rattle.ltm_board.specs.declared.told.Told.{Told, None, Then'}
use Rattle.ltm_board.specs.Begins.{BeginsWith}
use Rattle.ltm_board.specs.Lists.{PostData, entries_of_posts, is_opened, opening_of}
use Rattle.ltm_board.specs.Panels.{posts_of}

module _ {E : Type 0} where
  -- the newest of some lists
  abbrev pub newest : List (List E) → List E
  newest [] = []
  newest (list ∷ lists) = list

-- the lists that were told, the newest first
abbrev pub lists_of : Told → List (List PostData)
lists_of None = []
lists_of (Then' panel at before) = posts_of panel.value ∷ lists_of before

-- the posts that were seen last begin with an opening scenario, and with each list that is known
pub record HasSeen (posts : List PostData) (known : List (List PostData)) : Type 0 where
  pub opened : is_opened (entries_of_posts (opening_of posts)) ≡ true
  pub begins : BeginsWith posts known
