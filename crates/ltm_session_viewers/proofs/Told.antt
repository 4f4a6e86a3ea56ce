-- What a viewer tells is the report of the loading that is shown.
use Rattle.std.proofs.Common.{◌≡◌, ◌+◌, ◌++◌, [], ℕ, List, length, refl, sym, ap, subst, ◌∙◌, append_assoc, arith}
use Rattle.std.specs.Prelude.{Result, Ok, Err, OnOk}
use Rattle.ltm_flows.specs.Counts.{Counts}
use Rattle.ltm_core.specs.Loading.{IsLoading}
use Rattle.ltm_setting.specs.Setting.{setting_of}
use Rattle.ltm_scenario.specs.Data.{ScenarioData}
use Rattle.ltm_flows.specs.Shown.{version_of}
use Rattle.ltm_core.specs.Log.{scenario_at}
use Rattle.ltm_core.specs.Cores.{CoreData, IsShownOf}
use Rattle.ltm_core.specs.Runs.{HoldsOfCore}
use Rattle.ltm_core.specs.declared.entry.LogEntry.{LogEntry}
use Rattle.ltm_session.specs.Analysts.{Analysts, state_of}
use Rattle.ltm_report.specs.Reports.{totals_report}
use Rattle.ltm_session.specs.Answers.{ReportsShown}
use Rattle.ltm_board.specs.Sheets.{SheetData, IsSheet}
use Rattle.ltm_board.specs.Lists.{LeadsTo, IsSheetAfter}
use Rattle.ltm_board.specs.Leads.{ListsLead}
use Rattle.ltm_session_viewers.specs.Hung.{shown_list}
use Rattle.ltm_session_viewers.specs.Lines.{ViewersTell, viewer_line, viewer_report}
use Rattle.ltm_session_viewers.proofs.Posts.{first_leads, first_long}

pub on_ok_map : {A B : Type 0} (r : Result A B) (P Q : Type 0) → (P → Q) → OnOk r P → OnOk r Q
on_ok_map (Ok x) P Q f p = f p
on_ok_map (Err e) P Q f p = tt

-- the line of a sheet is the report of its loading
line_is : (viewer version shown : ℕ) (s : ScenarioData) (c : Counts) (sheet : SheetData) → version ≡ shown → IsSheet (setting_of s) c sheet
    → viewer_line viewer version sheet.totals.generated.0 sheet.totals.arrived.0 sheet.totals.on_links.0 sheet.totals.waiting.0 ≡ viewer_report viewer shown (setting_of s) c
unfolding totals_report
line_is viewer version shown s c sheet same is =
    let all = is.totals in
    let came = all.generated in
    let here = all.arrived in
    let links = all.on_links in
    let waits = all.waiting in
    cc

pub told_shown : (laws : ListsLead) (d : CoreData) (viewer count : ℕ) (list : List LogEntry) (sheet : SheetData) → HoldsOfCore d → IsShownOf d.log d.shown → list ≡ shown_list d
    → IsSheetAfter list sheet → count + 1 ≡ length list
    → ReportsShown (state_of d) (viewer_report viewer) (viewer_line viewer count sheet.totals.generated.0 sheet.totals.arrived.0 sheet.totals.on_links.0 sheet.totals.waiting.0)
told_shown laws d viewer count list sheet holds shown is right counted =
    let k = version_of d.shown in
    let leads : LeadsTo list (scenario_at d.log k) = subst (λ l. LeadsTo l (scenario_at d.log k)) (sym is) (first_leads k d.log holds.core.log.accepted) in
    let same : right.scenario ≡ scenario_at d.log k = laws.one list right.scenario (scenario_at d.log k) right.leads leads in
    let long = ap length is ∙ first_long k d.log shown.is_version in
    let number : count ≡ k = omega (arith, counted, long) in (
      right.counts,
      record { scenario = shown.scenario; network = shown.network },
      subst (λ (s : ScenarioData). IsLoading (setting_of s) right.counts) same right.loading,
      line_is viewer count k (scenario_at d.log k) right.counts sheet number (subst (λ (s : ScenarioData). IsSheet (setting_of s) right.counts sheet) same right.is_sheet),
    )

-- two viewers tell, one after the other
pub two_tell : (s : Analysts) (old mid new : List ℕ) → ((one : List ℕ) × ReportsShown s (viewer_report 1) one × (mid ≡ old ++ one))
    → ((two : List ℕ) × ReportsShown s (viewer_report 2) two × (new ≡ mid ++ two)) → (lines : List ℕ) × ViewersTell 2 s lines × (new ≡ old ++ lines)
two_tell s old mid new (one, first, wrote) (two, second, wrote_more) =
    (one ++ two, (one, two, ([], one, refl, first, refl), second, refl), wrote_more ∙ (ap (λ (z : List ℕ). z ++ two) wrote ∙ append_assoc old one two))
