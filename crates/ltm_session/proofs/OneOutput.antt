-- Without workers a scenario and a script have one output.
use Rattle.std.proofs.Common.{ℕ, ◌≡◌, ◌++◌, ◌<◌, ◌+◌, Bool, true, false, List, [], ◌∷◌, codes, length, refl, ap, sym, subst, ◌∙◌, arith}
use Rattle.std.proofs.lemmas.Bool.{ltb-true, leb-true}
use Rattle.std.proofs.lemmas.List.{length-map}
use Rattle.std.specs.Prelude.{Option, Some, None, Result, Ok, Err, MatchResult, nat_le, nat_lt}
use Rattle.ltm_flows.specs.Counts.{Counts}
use Rattle.ltm_network.specs.Network.{NetworkData, find_link, find_node, link_names}
use Rattle.ltm_network.proofs.Apart.{named_there}
use Rattle.ltm_scenario.specs.declared.edit.Edit.{Edit}
use Rattle.ltm_scenario.specs.declared.edit.EditFault.{EditFault}
use Rattle.ltm_scenario.specs.Data.{ScenarioData}
use Rattle.ltm_scenario.specs.Edits.{edited_all}
use Rattle.ltm_loading.specs.Setting.{Setting}
use Rattle.ltm_loading.specs.Loading.{IsLoading}
use Rattle.ltm_loading.specs.LoadingLaws.{OneLoading}
use Rattle.ltm_loading.proofs.Same.{AgreeTo}
use Rattle.ltm_setting.specs.Setting.{setting_of}
use Rattle.ltm_setting.specs.ScenarioLaw.{ScenariosAreSettings}
use Rattle.ltm_script.specs.Line.{reading}
use Rattle.ltm_script.specs.declared.command.Command.{Command}
use Rattle.ltm_script.specs.declared.command.Command.TheVariants as command
use Rattle.ltm_script.specs.declared.command.Question.{Question}
use Rattle.ltm_script.specs.declared.command.Question.TheVariants as question
use Rattle.ltm_script.specs.declared.command.CommandFault.{CommandFault}
use Rattle.ltm_script.specs.declared.command.CommandFault.TheVariants as fault
use Rattle.ltm_report.specs.Answers.{accepted_line, settled_line}
use Rattle.ltm_report.specs.EditFaults.{edit_fault_line}
use Rattle.ltm_io.specs.Script.{lines_of}
use Rattle.ltm_core.specs.Log.{Log, with_batch, version_now, settled_of, scenario_at, scenario_now}
use Rattle.ltm_core.specs.Settling.{IsExactCount, setting_at}
use Rattle.ltm_report.specs.Reports.{link_report}
use Rattle.ltm_report.specs.DelayReports.{queue_report, origin_report}
use Rattle.ltm_report.specs.Samples.{samples_report}
use Rattle.ltm_report.specs.RowReports.{state_report, curve_report, departures_report}
use Rattle.ltm_session.specs.Reports.{time_report}
use Rattle.ltm_session.specs.Questions.{Report, of_name, where_there, asked}
use Rattle.ltm_session.specs.Analysts.{Analysts, opening_state, shown_scenario, settled}
use Rattle.ltm_session.specs.Answers.{ReportsShown, TellsAsked, IsScenarioOf, CountsAlone, AnswersAlone}
use Rattle.ltm_session.specs.Session.{AnswersLine, AnswersLines}
use Rattle.ltm_session.specs.Laws.{OneOutput}
use Rattle.ltm_times.proofs.Alike.{agree, differing_same}
use Rattle.ltm_session.proofs.SameReports.{totals_same, links_same, times_same, delays_same, gaps_same, queues_same, origins_same}
use Rattle.ltm_session.proofs.SameRows.{states_same, samples_same, curves_same, departures_same, all_delays_same}

-- there is one loading of a setting, and scenarios make settings
pub record Known : Type 0 where
  pub one : OneLoading
  pub settings : ScenariosAreSettings

links_in : (s : ScenarioData) → (setting_of s).links ≡ length s.network.links
unfolding setting_of
links_in s = refl

slots_in : (s : ScenarioData) → (setting_of s).slots ≡ s.setup.slots
unfolding setting_of
slots_in s = refl

nodes_in : (s : ScenarioData) → (setting_of s).nodes ≡ length s.network.nodes
unfolding setting_of
nodes_in s = refl

-- ---- questions
-- what is asked is the same of two counts
abbrev AsksSame : ℕ → Setting → Counts → Counts → Result Report (List ℕ) → Type 0
AsksSame version z a b r = MatchResult r (λ report. report version z a ≡ report version z b) (λ refusal. Unit {0})

named_same : (version : ℕ) (z : Setting) (a b : Counts) (word : List ℕ) (found : Option ℕ) (bound : ℕ) (report : ℕ → Report)
    → ((k : ℕ) → found ≡ Some k → k < bound) → ((k : ℕ) → k < bound → report k version z a ≡ report k version z b) → AsksSame version z a b (of_name word found report)
named_same version z a b word None bound report within each = tt
named_same version z a b word (Some k) bound report within each = each k (within k refl)

there_same : (version : ℕ) (z : Setting) (a b : Counts) (word : List ℕ) (there : Bool) (r : Result Report (List ℕ)) → (there ≡ true → AsksSame version z a b r) → AsksSame version z a b (where_there word there r)
there_same version z a b word there (Err refusal) same = tt
there_same version z a b word true (Ok report) same = same refl
there_same version z a b word false (Ok report) same = tt

-- links and nodes that have a name are there
link_within : (n : NetworkData) (name : List ℕ) (count link : ℕ) → count ≡ length n.links → find_link n name ≡ Some link → link < count
link_within n name count link many is =
    let (there, which) = named_there (link_names n) name link is in
    let long : length (link_names n) ≡ length n.links = simp length-map in
    omega (arith, there, long, many)

node_within : (n : NetworkData) (name : List ℕ) (count node : ℕ) → count ≡ length n.nodes → find_node n name ≡ Some node → node < count
node_within n name count node many is = let (there, which) = named_there n.nodes name node is in omega (arith, there, many)

-- two loadings of a setting that has the links and nodes of a network
record Alike (n : NetworkData) (slots : ℕ) (z : Setting) (a b : Counts) : Type 0 where
  some_step : 0 < z.step
  agree : AgreeTo z a b z.slots
  links : z.links ≡ length n.links
  nodes : z.nodes ≡ length n.nodes
  slots_are : z.slots ≡ slots

asked_same : (n : NetworkData) (slots : ℕ) (z : Setting) (a b : Counts) (version : ℕ) (q : Question) → Alike n slots z a b → AsksSame version z a b (asked n slots q)
asked_same n slots z a b version question.Totals l = totals_same z a b version l.agree
asked_same n slots z a b version (question.Samples every) l =
    there_same version z a b (codes "totals") (nat_lt 0 every) (Ok (λ version. samples_report every version)) (λ test. samples_same z a b every version l.agree)
asked_same n slots z a b version (question.Link name) l =
    named_same version z a b (codes "link") (find_link n name) z.links (λ link version. link_report version name link) (λ link is. link_within n name z.links link l.links is)
    (λ link there. links_same z a b version link name l.agree there)
asked_same n slots z a b version (question.Time name slot) l =
    there_same version z a b (codes "time") (nat_lt slot slots) _ (λ test.
    let few = ltb-true slot slots test in
    let last = l.slots_are in
    named_same version z a b (codes "time") (find_link n name) z.links (λ link version. time_report version name link slot) (λ link is. link_within n name z.links link l.links is)
    (λ link there. times_same z a b version link slot name l.some_step l.agree there (omega (arith, few, last))))
asked_same n slots z a b version question.Delay l = delays_same z a b version l.some_step l.agree
asked_same n slots z a b version (question.Queue name boundary) l =
    there_same version z a b (codes "queue") (nat_le boundary slots) _ (λ test.
    let few = leb-true boundary slots test in
    let last = l.slots_are in
    named_same version z a b (codes "queue") (find_link n name) z.links (λ link version. queue_report version name link boundary) (λ link is. link_within n name z.links link l.links is)
    (λ link there. queues_same z a b version link boundary name l.some_step l.agree there (omega (arith, few, last))))
asked_same n slots z a b version (question.Origin name boundary) l =
    there_same version z a b (codes "origin") (nat_le boundary slots) _ (λ test.
    let few = leb-true boundary slots test in
    let last = l.slots_are in
    named_same version z a b (codes "origin") (find_node n name) z.nodes (λ node version. origin_report version name node boundary) (λ node is. node_within n name z.nodes node l.nodes is)
    (λ node there. origins_same z a b version node boundary name l.agree there (omega (arith, few, last))))
asked_same n slots z a b version (question.State boundary) l =
    there_same version z a b (codes "state") (nat_le boundary slots) (Ok (λ version. state_report version boundary)) (λ test.
    let few = leb-true boundary slots test in
    let last = l.slots_are in
    states_same z a b version boundary l.some_step l.agree (omega (arith, few, last)))
asked_same n slots z a b version (question.Curve name) l =
    named_same version z a b (codes "curve") (find_link n name) z.links (λ link version. curve_report version name link) (λ link is. link_within n name z.links link l.links is)
    (λ link there. curves_same z a b version link name l.agree there)
asked_same n slots z a b version (question.Departures name) l =
    named_same version z a b (codes "departures") (find_node n name) z.nodes (λ node version. departures_report version name node) (λ node is. node_within n name z.nodes node l.nodes is)
    (λ node there. departures_same z a b version node name l.agree there)
asked_same n slots z a b version question.Delays l = all_delays_same z a b version l.some_step l.agree
asked_same n slots z a b version question.Gap l = gaps_same z a b version l.some_step l.agree

-- the scenario that is shown has the links and nodes of the opening network
alike : (k : Known) (s : Analysts) (a b : Counts) → IsScenarioOf s.log s.shown → IsLoading (setting_at s.log s.shown) a → IsLoading (setting_at s.log s.shown) b
    → Alike s.log.opening.network (shown_scenario s).setup.slots (setting_at s.log s.shown) a b
alike k s a b is la lb =
    let z = scenario_at s.log s.shown in
    let setting = k.settings z is.scenario in
    record {
      some_step = setting.some_step;
      agree = agree (setting_at s.log s.shown) a b k.one setting la lb;
      links = links_in z ∙ ap (λ (n : NetworkData). length n.links) is.network;
      nodes = nodes_in z ∙ ap (λ (n : NetworkData). length n.nodes) is.network;
      slots_are = slots_in z;
    }

told_once : (k : Known) (s : Analysts) (r : Result Report (List ℕ)) (x y : List ℕ)
    → ((a b : Counts) → IsScenarioOf s.log s.shown → IsLoading (setting_at s.log s.shown) a → IsLoading (setting_at s.log s.shown) b → AsksSame s.shown (setting_at s.log s.shown) a b r)
    → MatchResult r (λ report. ReportsShown s report x) (λ refusal. x ≡ refusal) → MatchResult r (λ report. ReportsShown s report y) (λ refusal. y ≡ refusal) → x ≡ y
told_once k s (Ok report) x y same (a, is, la, told_x) (b, is_too, lb, told_y) = told_x ∙ same a b is la lb ∙ sym told_y
told_once k s (Err refusal) x y same told_x told_y = told_x ∙ sym told_y

asked_once : (k : Known) (s : Analysts) (q : Question) (x y : List ℕ) → TellsAsked s q x → TellsAsked s q y → x ≡ y
asked_once k s q x y told_x told_y =
    let n = s.log.opening.network in
    let slots = (shown_scenario s).setup.slots in
    told_once k s (asked n slots q) x y (λ a b is la lb. asked_same n slots (setting_at s.log s.shown) a b s.shown q (alike k s a b is la lb)) told_x told_y

-- ---- settles
count_once : (k : Known) (log : Log) (n m : ℕ) → CountsAlone log n → CountsAlone log m → n ≡ m
unfolding IsExactCount
count_once k log n m counts counts_too =
    let (count, (a, c, la, lc, is)) = counts.exact in
    let (count_too, (b, d, lb, ld, is_too)) = counts_too.exact in
    let before = setting_at log (settled_of log) in
    let after = setting_at log (version_now log) in
    let s = k.settings (scenario_at log (settled_of log)) counts.before.scenario in
    let r = k.settings (scenario_at log (version_now log)) counts.after.scenario in
    let nodes = nodes_in (scenario_at log (version_now log)) ∙ ap (λ (n : NetworkData). length n.nodes) (counts.after.network ∙ sym counts.before.network) ∙ sym (nodes_in (scenario_at log (settled_of log))) in
    is ∙ differing_same before after a b c d nodes s r (agree before a b k.one s la lb) (agree after c d k.one r lc ld) ∙ sym is_too

-- ---- all lines
-- two answers with their machines are one
abbrev Same : List ℕ → Analysts → List ℕ → Analysts → Type 0
Same x t y u = (x ≡ y) × (t ≡ u)

both_stay : (s t u : Analysts) → t ≡ s → u ≡ s → t ≡ u
both_stay s t u a b = a ∙ sym b

edits_once : (made : Result ScenarioData EditFault) (s t u : Analysts) (batch : List Edit) (x y : List ℕ)
    → MatchResult made (λ _. (x ≡ accepted_line (version_now s.log + 1)) × (t ≡ record s { log = with_batch s.log batch })) (λ f. (x ≡ edit_fault_line f) × (t ≡ s))
    → MatchResult made (λ _. (y ≡ accepted_line (version_now s.log + 1)) × (u ≡ record s { log = with_batch s.log batch })) (λ f. (y ≡ edit_fault_line f) × (u ≡ s))
    → Same x t y u
edits_once (Ok next) s t u batch x y (is, same) (is_too, same_too) = (is ∙ sym is_too, same ∙ sym same_too)
edits_once (Err f) s t u batch x y (is, same) (is_too, same_too) = (is ∙ sym is_too, same ∙ sym same_too)

answer_once : (k : Known) (s : Analysts) (said : Result Command CommandFault) (x y : List ℕ) (t u : Analysts) → AnswersAlone s said x t → AnswersAlone s said y u → Same x t y u
answer_once k s (Ok command.Settle) x y t u ((n, counts, is), same) ((m, counts_too, is_too), same_too) =
    (is ∙ ap (settled_line (version_now s.log)) (count_once k s.log n m counts counts_too) ∙ sym is_too, both_stay (settled s) t u same same_too)
answer_once k s (Ok (command.Edit batch)) x y t u a b = edits_once (edited_all (scenario_now s.log) batch) s t u batch x y a b
answer_once k s (Ok (command.Ask q)) x y t u (told, same) (told_too, same_too) = (asked_once k s q x y told told_too, both_stay s t u same same_too)
answer_once k s (Err fault.NotJson) x y t u (told, same) (told_too, same_too) = (told ∙ sym told_too, both_stay s t u same same_too)
answer_once k s (Err (fault.NotCommand place)) x y t u (told, same) (told_too, same_too) = (told ∙ sym told_too, both_stay s t u same same_too)
answer_once k s (Err fault.NoMemory) x y t u none b = absurd none

line_once : (k : Known) (s : Analysts) (line x y : List ℕ) (t u : Analysts) → AnswersLine AnswersAlone s line x t → AnswersLine AnswersAlone s line y u → Same x t y u
line_once k s line x y t u a b = answer_once k s (reading line) x y t u a b

lines_once : (k : Known) (s : Analysts) (lines : List (List ℕ)) (x y : List ℕ) (t u : Analysts) → AnswersLines AnswersAlone s lines x t → AnswersLines AnswersAlone s lines y u → x ≡ y
lines_once k s [] x y t u (none, same) (none_too, same_too) = none ∙ sym none_too
lines_once k s (line ∷ lines) x y t u (v, text, rest, first, others, whole) (w, text_too, rest_too, first_too, others_too, whole_too) =
    let (one, here) = line_once k s line text text_too v w first first_too in
    let after = lines_once k w lines rest rest_too t u (subst (λ m. AnswersLines AnswersAlone m lines rest t) here others) others_too in
    whole ∙ ap (λ z. z ++ rest) one ∙ ap (λ z. text_too ++ z) after ∙ sym whole_too

pub one_output_holds : Known → OneOutput
one_output_holds k s script x y (t, a) (u, b) = lines_once k (opening_state s 0) (lines_of script) x y t u a b
