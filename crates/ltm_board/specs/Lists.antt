-- The list of a board, the posts that made it, and the sheet that belongs to it.
use Rattle.std.specs.Prelude.{◌≡◌, ℕ, List, [], ◌∷◌, ◌++◌, length, map, take, Bool, true, false}
use Rattle.ltm_flows.specs.Counts.{Counts}
use Rattle.ltm_core.specs.Loading.{IsLoading}
use Rattle.ltm_scenario.specs.declared.edit.Edit.{Edit}
use Rattle.ltm_scenario.specs.Data.{ScenarioData}
use Rattle.ltm_core.specs.Setting.{setting_of}
use Rattle.ltm_flows.specs.declared.loading.Loading.{Loading}
use Rattle.ltm_flows.specs.Shown.{Shows}
use Rattle.ltm_core.specs.declared.entry.LogEntry.{LogEntry}
use Rattle.ltm_core.specs.declared.entry.LogEntry.TheVariants.{Opening, Accepted, Mark}
use Rattle.ltm_core.specs.Log.{AreAccepted, after_batches}
use Rattle.ltm_board.specs.Sheets.{SheetData, IsSheet}

-- batches as entries of a list
abbrev pub entries_of_batches : List (List Edit) → List LogEntry
entries_of_batches batches = map (λ batch. Accepted batch) batches

-- the list of a board: the opening scenario at its head, and then the batches that were posted
abbrev pub list_of : ScenarioData → List (List Edit) → List LogEntry
list_of opening batches = Opening opening ∷ entries_of_batches batches

-- what one post puts, all at once: the opening scenario, or some batches
abbrev pub PostData : Type 0
PostData = List LogEntry

-- what posts put, as one list
abbrev pub entries_of_posts : {E : Type 0} → List (List E) → List E
entries_of_posts [] = []
entries_of_posts (post ∷ posts) = post ++ entries_of_posts posts

-- the posts of a board on which nothing was posted but its opening scenario
abbrev pub opening_posts : ScenarioData → List PostData
opening_posts opening = list_of opening [] ∷ []

-- the first post
abbrev pub opening_of : {E : Type 0} → List E → List E
opening_of posts = take 1 posts

-- how many links the opening scenario of a list has
abbrev pub links_told : List LogEntry → ℕ
links_told (Opening opening ∷ entries) = length opening.network.links
links_told (Accepted batch ∷ entries) = 0
links_told (Mark ∷ entries) = 0
links_told [] = 0

-- an opening scenario stands at the head
abbrev pub is_opened : List LogEntry → Bool
is_opened (Opening opening ∷ entries) = true
is_opened (Accepted batch ∷ entries) = false
is_opened (Mark ∷ entries) = false
is_opened [] = false

-- each batch of a list is accepted after those before it, and they leave a scenario
pub record LeadsTo (list : List LogEntry) (s : ScenarioData) : Type 0 where
  pub opening : ScenarioData
  pub batches : List (List Edit)
  pub is_list : list ≡ list_of opening batches
  pub accepted : AreAccepted opening batches
  pub leaves : after_batches opening batches ≡ s

-- the loading of a scenario, under some version
abbrev pub IsLoadingOf : ScenarioData → Loading → Type 0
IsLoadingOf s loading = (version : ℕ) × Shows (setting_of s) version loading

-- the sheet of the loading of the scenario to which a list leads
pub record IsSheetAfter (list : List LogEntry) (sheet : SheetData) : Type 0 where
  pub scenario : ScenarioData
  pub counts : Counts
  pub leads : LeadsTo list scenario
  pub loading : IsLoading (setting_of scenario) counts
  pub is_sheet : IsSheet (setting_of scenario) counts sheet
