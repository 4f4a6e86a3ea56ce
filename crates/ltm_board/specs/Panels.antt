-- What is on a board.
use Rattle.std.specs.Prelude.{◌≡◌, ◌+◌, ℕ, List, [], ◌∷◌, length, map, Vec}
use Rattle.ltm_scenario.specs.declared.edit.Edit.{Edit}
use Rattle.ltm_board.specs.Lists.{PostData, list_of, entries_of_posts, entries_of_batches, IsSheetAfter}
use Rattle.ltm_board.specs.declared.panel.Panel.{Panel}
use Rattle.ltm_board.specs.declared.panel.Posting.{Posting}

-- the batches of each of some posts
abbrev pub batches_in : {A : Type 0} → List (Vec (List Edit) A) → List (List (List Edit))
batches_in posts = map (λ v. v.items) posts

-- the opening scenario is the first post; those that were made stand behind it
abbrev pub posts_of : Panel → List PostData
posts_of panel = list_of panel.opening.value [] ∷ map entries_of_batches (batches_in panel.posts.items)

-- the sheet is that of the loading to which the list leads, and the batches of the list are counted
pub record IsRight (panel : Panel) : Type 0 where
  pub sheet : IsSheetAfter (entries_of_posts (posts_of panel)) panel.sheet
  pub count : panel.count + 1 ≡ length (entries_of_posts (posts_of panel))

-- each posting that waits keeps so many posts
abbrev pub AllKeep : ℕ → List Posting → Type 0
AllKeep posts waiting = map (λ p. p.keeps) waiting ≡ map (λ p. posts) waiting
