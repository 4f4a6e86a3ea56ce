-- The batch that is posted first leads to what it makes of the opening scenario.
use Rattle.std.proofs.Common.{◌≡◌, [], ◌∷◌, ◌++◌, List, Ok, sym, subst}
use Rattle.ltm_scenario.specs.declared.edit.Edit.{Edit}
use Rattle.ltm_scenario.specs.Data.{ScenarioData}
use Rattle.ltm_scenario.specs.Edits.{edited_all}
use Rattle.ltm_board.specs.Lists.{PostData, list_of, opening_posts, entries_of_posts, entries_of_batches, LeadsTo}
use Rattle.ltm_board.specs.Leads.{ListsLead}

pub first_leads : ListsLead → (s next : ScenarioData) (batch : List Edit) (posts : List PostData) → posts ≡ opening_posts s → edited_all s batch ≡ Ok next
    → LeadsTo (entries_of_posts posts ++ entries_of_batches (batch ∷ [])) next
first_leads laws s next batch posts is edited =
    subst (λ (l : List PostData). LeadsTo (entries_of_posts l ++ entries_of_batches (batch ∷ [])) next) (sym is) (laws.further (list_of s []) s next batch (laws.opening s) edited)
