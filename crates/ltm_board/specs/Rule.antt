-- The rule of a board: what is between any two steps. And what a look tells.
use Rattle.std.specs.Prelude.{◌≡◌, ℕ, List}
use mathlib.Core.List.{IsPrefix}
use mathlib.Core.Option.{some}
use lib.ListN.{get_elem?}
use Rattle.ltm_board.specs.declared.panel.Panel.{Panel}
use Rattle.ltm_board.specs.declared.glimpse.Glimpse.{Glimpse}
use Rattle.ltm_board.specs.Panels.{posts_of, IsRight}

-- what is shown is right, and its posts begin with those that any seat has seen
abbrev pub Keeps : Panel → List Glimpse → Type 0
Keeps panel views = IsRight panel × ((seat : ℕ) (v : Glimpse) → get_elem? views seat ≡ some v → IsPrefix v.seen (posts_of panel))

-- who looked has seen the posts that are shown then, and they begin with those that it had seen before
abbrev pub Looked : Glimpse → Panel → Panel → Glimpse → Type 0
Looked v old new w = IsRight new × (w.seen ≡ posts_of new) × IsPrefix v.seen (posts_of new)
