-- The sheet of a list, and how many links it has.
use Rattle.std.proofs.Common.{◌≡◌, ℕ, true, List, [], ◌∷◌, ◌++◌, length, refl, sym, ap, ◌∙◌}
use mathlib.Core.List.{IsPrefix}
use Rattle.ltm_flows.specs.Counts.{Counts}
use Rattle.ltm_flows.specs.Setting.{Setting}
use Rattle.ltm_scenario.specs.Data.{ScenarioData}
use Rattle.ltm_scenario.specs.Makes.{EditsMake}
use Rattle.ltm_core.specs.Setting.{setting_of}
use Rattle.ltm_flows.specs.declared.loading.Loading.{Loading}
use Rattle.ltm_flows.specs.Shown.{ShowsCounts}
use Rattle.ltm_core.specs.declared.entry.LogEntry.{LogEntry}
use Rattle.ltm_core.specs.declared.entry.LogEntry.TheVariants.{Opening, Accepted, Mark}
use Rattle.ltm_board.specs.Sheets.{SheetData, IsSheet, links_on}
use Rattle.ltm_board.specs.Lists.{PostData, entries_of_posts, list_of, opening_posts, opening_of, links_told, is_opened, LeadsTo, IsLoadingOf, IsSheetAfter}
use Rattle.ltm_board.proofs.Lists.{begins_trans, front_begins, joined_begins}
use Rattle.ltm_board.proofs.Networks.{by_batches}

pub opens_itself : (s : ScenarioData) → LeadsTo (list_of s []) s
opens_itself s = record { opening = s; batches = []; is_list = refl; accepted = tt; leaves = refl }

pub sheet_after : (list : List LogEntry) (s : ScenarioData) (l : Loading) (sheet : SheetData) → LeadsTo list s → IsLoadingOf s l
    → ((r : Setting) (version : ℕ) (c : Counts) → ShowsCounts r version c l → IsSheet r c sheet) → IsSheetAfter list sheet
sheet_after list s l sheet leads loading is = record {
  scenario = s;
  counts = loading.1.0;
  leads = leads;
  loading = loading.1.1.loading;
  is_sheet = is (setting_of s) loading.0 loading.1.0 loading.1.1;
}

links_in : (s : ScenarioData) → (setting_of s).links ≡ length s.network.links
unfolding setting_of
links_in s = refl

-- a sheet has the links of the opening scenario
pub links_after : EditsMake → (list : List LogEntry) (sheet : SheetData) → IsSheetAfter list sheet → links_on sheet ≡ links_told list
links_after make list sheet is =
    let o = is.leads in
    is.is_sheet.links ∙ (links_in is.scenario
    ∙ (ap (λ (s : ScenarioData). length s.network.links) (sym o.leaves)
    ∙ ((λ i. length (by_batches make o.opening o.batches o.accepted i).links) ∙ sym (ap links_told o.is_list))))

told_same : (first list : List LogEntry) → is_opened first ≡ true → IsPrefix first list → links_told list ≡ links_told first
told_same (Opening s ∷ rest) list opened (more, e) = ap links_told (sym e)
told_same (Accepted batch ∷ rest) list opened begins = absurd (cc)
told_same (Mark ∷ rest) list opened begins = absurd (cc)
told_same [] list opened begins = absurd (cc)

-- what is shown has as many links as the opening of those posts that were seen
pub links_seen : EditsMake → (seen posts : List PostData) (sheet : SheetData) → is_opened (entries_of_posts (opening_of seen)) ≡ true → IsPrefix seen posts → IsSheetAfter (entries_of_posts posts) sheet
    → links_on sheet ≡ links_told (entries_of_posts (opening_of seen))
links_seen make seen posts sheet opened up is =
    links_after make (entries_of_posts posts) sheet is ∙ told_same (entries_of_posts (opening_of seen)) (entries_of_posts posts) opened (joined_begins (opening_of seen) posts (begins_trans (opening_of seen) seen posts (front_begins seen) up))

pub same_opened : (a b : List LogEntry) → a ≡ b → is_opened b ≡ true → is_opened a ≡ true
same_opened a b e opened = ap is_opened e ∙ opened

opened_list : (list : List LogEntry) (s : ScenarioData) → LeadsTo list s → is_opened list ≡ true
opened_list list s leads = same_opened list (list_of leads.opening leads.batches) leads.is_list refl

-- a longer list has a sheet of as many links
pub links_stay : EditsMake → (list more : List LogEntry) (sheet next : SheetData) → IsSheetAfter list sheet → IsSheetAfter (list ++ more) next → links_on next ≡ links_on sheet
links_stay make list more sheet next is now =
    links_after make (list ++ more) next now
    ∙ (told_same list (list ++ more) (opened_list list is.scenario is.leads) (more, refl)
    ∙ sym (links_after make list sheet is))

-- a sheet of the opening loading has the links of the opening scenario
pub links_opening : EditsMake → (s : ScenarioData) (sheet : SheetData) → IsSheetAfter (list_of s []) sheet → links_on sheet ≡ (setting_of s).links
links_opening make s sheet is = links_after make (list_of s []) sheet is ∙ sym (links_in s)

pub told_opening : (s : ScenarioData) (posts : List PostData) → posts ≡ opening_posts s → links_told (entries_of_posts (opening_of posts)) ≡ (setting_of s).links
told_opening s posts is = ap (λ (l : List PostData). links_told (entries_of_posts (opening_of l))) is ∙ sym (links_in s)
