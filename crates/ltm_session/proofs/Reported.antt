-- What is written of a shown loading is its report.
use Rattle.std.proofs.Common.{ℕ, ◌≡◌, ◌++◌, List, length, refl, ap, sym, subst, ◌∙◌}
use Rattle.std.specs.Prelude.{Option, MatchResult, Result, Ok, Err, OnOk}
use Rattle.ltm_flows.specs.Counts.{Counts}
use Rattle.ltm_network.specs.Network.{NetworkData}
use Rattle.ltm_scenario.specs.Data.{ScenarioData}
use Rattle.ltm_loading.specs.Setting.{Setting}
use Rattle.ltm_setting.specs.Setting.{setting_of}
use Rattle.ltm_flows.specs.declared.loading.Loading.{Loading}
use Rattle.ltm_flows.specs.Shown.{ShowsCounts, version_of, links_of, nodes_of, last_of}
use Rattle.ltm_script.specs.declared.command.Command.TheVariants as command
use Rattle.ltm_script.specs.declared.command.Question.{Question}
use Rattle.ltm_script.specs.declared.command.Question.TheVariants as question
use Rattle.ltm_gap.specs.Told.{Suits}
use Rattle.ltm_report.specs.GapReports.{gap_report}
use Rattle.ltm_times.specs.Times.{travel_time}
use Rattle.ltm_report.specs.Times.{time_line}
use Rattle.ltm_core.specs.Log.{scenario_at}
use Rattle.ltm_core.specs.Cores.{CoreData, IsShownOf}
use Rattle.ltm_session.specs.Analysts.{state_of, shown_scenario}
use Rattle.ltm_session.specs.Reports.{time_report}
use Rattle.ltm_session.specs.Questions.{Report, asked, Appends}
use Rattle.ltm_session.specs.Answers.{IsScenarioOf, ReportsShown, TellsAsked, Replies}

pub on_ok_map : {A B : Type 0} (r : Result A B) (P Q : Type 0) → (P → Q) → OnOk r P → OnOk r Q
on_ok_map (Ok x) P Q f p = f p
on_ok_map (Err e) P Q f p = tt

-- ---- what is written of a travel time
pub time_written : (l : Loading) (link slot : ℕ) (name : List ℕ) (v : ℕ) (time : Option ℕ) (old new : List ℕ) → v ≡ version_of l
    → ((s : Setting) (version : ℕ) (c : Counts) → ShowsCounts s version c l → time ≡ travel_time s c link slot)
    → new ≡ old ++ time_line v name slot time
    → (s : Setting) (version : ℕ) (c : Counts) → ShowsCounts s version c l → new ≡ old ++ time_report version name link slot s c
unfolding time_report
time_written l link slot name v time old new is takes wrote s version c shows =
    let number : v ≡ version = is ∙ shows.version in
    let passes = takes s version c shows in
    cc

-- ---- what a core shows
-- a report of the loading that a core shows
shown_reported : (d : CoreData) (l : Loading) (report : Report) (old new : List ℕ) → l ≡ d.shown → IsShownOf d.log d.shown
    → ((s : Setting) (version : ℕ) (c : Counts) → ShowsCounts s version c l → new ≡ old ++ report version s c)
    → (text : List ℕ) × ReportsShown (state_of d) report text × (new ≡ old ++ text)
shown_reported d l report old new same shown wrote =
    let v = version_of d.shown in
    let s = setting_of (scenario_at d.log v) in
    let is_one : IsScenarioOf d.log v = record { scenario = shown.scenario; network = shown.network } in
    let told = subst (λ (m : Loading). ((s : Setting) (version : ℕ) (c : Counts) → ShowsCounts s version c m → new ≡ old ++ report version s c)) same wrote in
    let (c, shows) = shown.shows in
    (report v s c, (c, is_one, shows.loading, refl), told s v c shows)

-- the gap of that loading, of the scenario that it was loaded from
pub gap_reported : (d : CoreData) (z : ScenarioData) (l : Loading) (old new : List ℕ) → l ≡ d.shown → IsShownOf d.log d.shown → z ≡ scenario_at d.log (version_of d.shown)
    → ((version : ℕ) (c : Counts) → ShowsCounts (setting_of z) version c l → new ≡ old ++ gap_report version (setting_of z) c)
    → (text : List ℕ) × ReportsShown (state_of d) gap_report text × (new ≡ old ++ text)
gap_reported d z l old new same shown is wrote =
    let v = version_of d.shown in
    let s = setting_of (scenario_at d.log v) in
    let is_one : IsScenarioOf d.log v = record { scenario = shown.scenario; network = shown.network } in
    let told = subst (λ (m : Loading). ((version : ℕ) (c : Counts) → ShowsCounts s version c m → new ≡ old ++ gap_report version s c)) same
    (subst (λ (x : ScenarioData). ((version : ℕ) (c : Counts) → ShowsCounts (setting_of x) version c l → new ≡ old ++ gap_report version (setting_of x) c)) is wrote) in
    let (c, shows) = shown.shows in
    (gap_report v s c, (c, is_one, shows.loading, refl), told v c shows)

-- it has the sizes of that scenario
pub gap_suits : (d : CoreData) (z : ScenarioData) (l : Loading) → l ≡ d.shown → IsShownOf d.log d.shown → z ≡ scenario_at d.log (version_of d.shown) → Suits (setting_of z) l
gap_suits d z l same shown is =
    let shows = shown.shows.1 in
    subst (λ (m : Loading). Suits (setting_of z) m) (sym same) (subst (λ (x : ScenarioData). Suits (setting_of x) d.shown) (sym is) (record { step = shows.step; slots = shows.shape.same_slots; links = shows.links; nodes = shows.nodes }))

links_shown : (s : ScenarioData) → (setting_of s).links ≡ length s.network.links
unfolding setting_of
links_shown s = refl

slots_shown : (s : ScenarioData) → (setting_of s).slots ≡ s.setup.slots
unfolding setting_of
slots_shown s = refl

nodes_shown : (s : ScenarioData) → (setting_of s).nodes ≡ length s.network.nodes
unfolding setting_of
nodes_shown s = refl

-- the loading that a core shows is of the opening network
pub links_there : (d : CoreData) (n : NetworkData) (l : Loading) → n ≡ d.log.opening.network → l ≡ d.shown → IsShownOf d.log d.shown → links_of l ≡ length n.links
links_there d n l is same shown =
    let s = scenario_at d.log (version_of d.shown) in
    ap links_of same ∙ shown.shows.1.links ∙ links_shown s ∙ ap (λ (m : NetworkData). length m.links) (shown.network ∙ sym is)

pub nodes_there : (d : CoreData) (n : NetworkData) (l : Loading) → n ≡ d.log.opening.network → l ≡ d.shown → IsShownOf d.log d.shown → nodes_of l ≡ length n.nodes
nodes_there d n l is same shown =
    let s = scenario_at d.log (version_of d.shown) in
    ap nodes_of same ∙ shown.shows.1.nodes ∙ nodes_shown s ∙ ap (λ (m : NetworkData). length m.nodes) (shown.network ∙ sym is)

-- the slots of the shown loading are those of its scenario
slots_there : (d : CoreData) (l : Loading) → l ≡ d.shown → IsShownOf d.log d.shown → last_of l ≡ (shown_scenario (state_of d)).setup.slots
slots_there d l same shown = ap last_of same ∙ shown.shows.1.shape.same_slots ∙ slots_shown (scenario_at d.log (version_of d.shown))

-- what was appended of it answers the question
told_of : (d : CoreData) (l : Loading) (r : Result Report (List ℕ)) (old new : List ℕ) → l ≡ d.shown → IsShownOf d.log d.shown → Appends l r old new
    → (text : List ℕ) × MatchResult r (λ report. ReportsShown (state_of d) report text) (λ refusal. text ≡ refusal) × (new ≡ old ++ text)
told_of d l (Ok report) old new same shown wrote = shown_reported d l report old new same shown wrote
told_of d l (Err refusal) old new same shown wrote = (refusal, refl, wrote)

pub question_replied : (d : CoreData) (n : NetworkData) (l : Loading) (q : Question) (old new : List ℕ)
    → n ≡ d.log.opening.network → l ≡ d.shown → IsShownOf d.log d.shown → Appends l (asked n (last_of l) q) old new
    → (text : List ℕ) × Replies (state_of d) (Ok (command.Ask q)) text (state_of d) × (new ≡ old ++ text)
question_replied d n l q old new is same shown wrote =
    let opening = subst (λ (m : NetworkData). Appends l (asked m (last_of l) q) old new) is wrote in
    let there = subst (λ (k : ℕ). Appends l (asked d.log.opening.network k q) old new) (slots_there d l same shown) opening in
    let (text, told, wrote_it) = told_of d l (asked d.log.opening.network (shown_scenario (state_of d)).setup.slots q) old new same shown there in
    (text, (told, refl), wrote_it)

-- a gap that was reported answers its question
pub gap_replied : (d : CoreData) (q : Question) (old new : List ℕ) → q ≡ question.Gap → (text : List ℕ) × ReportsShown (state_of d) gap_report text × (new ≡ old ++ text)
    → (text : List ℕ) × Replies (state_of d) (Ok (command.Ask q)) text (state_of d) × (new ≡ old ++ text)
gap_replied d q old new is (text, told, wrote) = (text, (subst (λ (x : Question). TellsAsked (state_of d) x text) (sym is) told, refl), wrote)
