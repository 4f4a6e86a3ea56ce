-- A session keeps its promise: the machine of the analysts stands as the lines say, line by line.
use Rattle.std.proofs.Common.{ℕ, ◌≡◌, ◌≤◌, ◌+◌, refl, ap, sym, subst, ◌∙◌, arith, true, false, List, [], ◌∷◌, ◌++◌, length, take, length-append}
use Rattle.std.specs.Prelude.{Result, Ok, Err, MatchResult}
use Rattle.std.proofs.lemmas.List.{length-take-le}
use Rattle.ltm_scenario.specs.declared.edit.Edit.{Edit}
use Rattle.ltm_scenario.specs.declared.edit.EditFault.{EditFault}
use Rattle.ltm_scenario.specs.Data.{ScenarioData}
use Rattle.ltm_scenario.specs.Edits.{edited_all}
use Rattle.ltm_scenario.specs.IsScenario.{IsScenario}
use Rattle.ltm_loading.specs.Loading.{IsLoading}
use Rattle.ltm_setting.specs.Setting.{setting_of}
use Rattle.ltm_script.specs.declared.command.Command.{Command}
use Rattle.ltm_script.specs.declared.command.Command.TheVariants as command
use Rattle.ltm_script.specs.declared.command.Question.{Question}
use Rattle.ltm_script.specs.declared.command.CommandFault.{CommandFault}
use Rattle.ltm_script.specs.declared.command.CommandFault.TheVariants as fault
use Rattle.ltm_report.specs.Answers.{accepted_line, settled_line}
use Rattle.ltm_report.specs.EditFaults.{edit_fault_line}
use Rattle.ltm_core.specs.Log.{Log, with_batch, batches_of, version_now, scenario_at, scenario_now, after_batches}
use Rattle.ltm_core.specs.Settling.{IsSettleCount}
use Rattle.ltm_core.proofs.Logs.{length_batches, opening_batch, batches_more, opening_marked, batches_marked}
use Rattle.ltm_session.specs.Questions.{Report, asked}
use Rattle.ltm_session.specs.Analysts.{Analysts, opening_state, settled, IsShownLater}
use Rattle.ltm_session.specs.Answers.{ReportsShown, Answers}
use Rattle.ltm_session.specs.Promise.{Standing, at_first, after_edit, after_command, Tells, slots_after, IsAnswer}

-- the machine stands as the lines say
pub record Agrees (s : ScenarioData) (now : Standing) (u : Analysts) : Type 0 where
  pub opening : u.log.opening ≡ s
  pub batches : batches_of u.log ≡ now.accepted
  pub finished : u.shown ≤ length now.accepted
  pub fresh : now.settled ≡ true → u.shown ≡ length now.accepted

version_of_log : (now : Standing) (log : Log) → batches_of log ≡ now.accepted → version_now log ≡ length now.accepted
version_of_log now log is = sym (length_batches log) ∙ ap (λ l. length l) is

-- the batches whose loading it shows
abbrev pub shown_by : Standing → Analysts → List (List Edit)
shown_by now u = take u.shown now.accepted

shown_is : (s : ScenarioData) (now : Standing) (u : Analysts) → Agrees s now u → scenario_at u.log u.shown ≡ after_batches s (shown_by now u)
unfolding scenario_at
shown_is s now u g = ap (λ o. after_batches o (take u.shown (batches_of u.log))) g.opening ∙ ap (λ l. after_batches s (take u.shown l)) g.batches

now_is : (s : ScenarioData) (now : Standing) (u : Analysts) → Agrees s now u → scenario_now u.log ≡ after_batches s now.accepted
unfolding scenario_now
now_is s now u g = ap (λ o. after_batches o (batches_of u.log)) g.opening ∙ ap (λ l. after_batches s l) g.batches

-- ---- reports
-- what is reported of what is shown is told of the loading after those batches
tells : (s : ScenarioData) (now : Standing) (u : Analysts) (report : Report) (text : List ℕ) → Agrees s now u → ReportsShown u report text → Tells s (shown_by now u) report text
tells s now u report text g (c, of, loads, is) =
    let at = shown_is s now u g in
    let many : u.shown ≡ length (shown_by now u) = sym (length-take-le u.shown now.accepted g.finished) in (
      c,
      subst IsScenario at of.scenario,
      subst (λ z. IsLoading (setting_of z) c) at loads,
      is ∙ ap (λ z. report u.shown (setting_of z) c) at ∙ ap (λ k. report k (setting_of (after_batches s (shown_by now u))) c) many,
    )

-- what a question asks of what is shown
answers_asked : (s : ScenarioData) (now : Standing) (u : Analysts) (r : Result Report (List ℕ)) (text : List ℕ) → Agrees s now u
    → MatchResult r (λ report. ReportsShown u report text) (λ refusal. text ≡ refusal)
    → MatchResult r (λ report. Tells s (shown_by now u) report text) (λ refusal. text ≡ refusal)
answers_asked s now u (Ok report) text g told = tells s now u report text g told
answers_asked s now u (Err refusal) text g is = is

slots_are : (s : ScenarioData) (now : Standing) (u : Analysts) → Agrees s now u → (scenario_at u.log u.shown).setup.slots ≡ slots_after s (shown_by now u)
slots_are s now u g = ap (λ (z : ScenarioData). z.setup.slots) (shown_is s now u g)

asked_is : (s : ScenarioData) (now : Standing) (u : Analysts) (q : Question) → Agrees s now u
    → asked u.log.opening.network (scenario_at u.log u.shown).setup.slots q ≡ asked s.network (slots_after s (shown_by now u)) q
asked_is s now u q g =
    ap (λ (z : ScenarioData). asked z.network (scenario_at u.log u.shown).setup.slots q) g.opening ∙ ap (λ (n : ℕ). asked s.network n q) (slots_are s now u g)

-- ---- one line
-- it is answered as promised, the machine stands as the lines with it say, and no fewer batches are shown
abbrev pub Steps : ScenarioData → Standing → Analysts → Result Command CommandFault → List ℕ → Analysts → Type 0
Steps s now u said text t = IsAnswer s now (shown_by now u) said text × Agrees s (after_command s now said) t × (u.shown ≤ t.shown)

stays : (s : ScenarioData) (now : Standing) (u t : Analysts) → Agrees s now u → t ≡ u → Agrees s now t × (u.shown ≤ t.shown)
stays s now u t g same =
    let one : t.shown ≡ u.shown = ap (λ x. x.shown) same in
    (subst (λ (x : Analysts). Agrees s now x) (sym same) g, omega (one, arith))

with_edit : (s : ScenarioData) (now : Standing) (u : Analysts) (batch : List Edit) → Agrees s now u
    → Agrees s (record { accepted = now.accepted ++ batch ∷ []; settled = false }) (record u { log = with_batch u.log batch })
with_edit s now u batch g = record {
  opening = opening_batch u.log batch ∙ g.opening;
  batches = batches_more u.log batch ∙ ap (λ l. l ++ batch ∷ []) g.batches;
  finished = let more : length (now.accepted ++ batch ∷ []) ≡ length now.accepted + 1 = length-append now.accepted (batch ∷ []) in let low = g.finished in omega (more, low, arith);
  fresh = λ wrong. absurd (cc);
}

abbrev Edits : Standing → Analysts → List Edit → Result ScenarioData EditFault → List ℕ → Analysts → Type 0
Edits now u batch made text t = MatchResult made
    (λ _. (text ≡ accepted_line (version_now u.log + 1)) × (t ≡ record u { log = with_batch u.log batch }))
    (λ f. (text ≡ edit_fault_line f) × (t ≡ u))

edit_step : (s : ScenarioData) (now : Standing) (u : Analysts) (batch : List Edit) (text : List ℕ) (t : Analysts) → Agrees s now u
    → (made : Result ScenarioData EditFault) → Edits now u batch made text t
    → MatchResult made (λ _. text ≡ accepted_line (length now.accepted + 1)) (λ f. text ≡ edit_fault_line f)
    × Agrees s (after_edit now batch made) t × (u.shown ≤ t.shown)
edit_step s now u batch text t g (Ok next) (is, same) = (
  is ∙ ap (λ k. accepted_line (k + 1)) (version_of_log now u.log g.batches),
  subst (λ (x : Analysts). Agrees s (record { accepted = now.accepted ++ batch ∷ []; settled = false }) x) (sym same) (with_edit s now u batch g),
  (let one : t.shown ≡ u.shown = ap (λ x. x.shown) same in omega (one, arith)),
)
edit_step s now u batch text t g (Err f) (is, same) = let there = stays s now u t g same in (is, there.0, there.1)

with_settle : (s : ScenarioData) (now : Standing) (u : Analysts) → Agrees s now u → Agrees s (record now { settled = true }) (settled u)
with_settle s now u g =
    let all = version_of_log now u.log g.batches in
    record {
      opening = opening_marked u.log ∙ g.opening;
      batches = batches_marked u.log ∙ g.batches;
      finished = omega (all, arith);
      fresh = λ _. all;
    }

pub step : (s : ScenarioData) (now : Standing) (u : Analysts) (said : Result Command CommandFault) (text : List ℕ) (t : Analysts) → Agrees s now u → Answers IsSettleCount u said text t → Steps s now u said text t
step s now u (Ok (command.Edit batch)) text t g a =
    edit_step s now u batch text t g (edited_all (after_batches s now.accepted) batch)
    (subst (λ z. Edits now u batch (edited_all z batch) text t) (now_is s now u g) a)
step s now u (Ok command.Settle) text t g ((n, count, is), same) =
    let all = version_of_log now u.log g.batches in
    let low = g.finished in
    let one : t.shown ≡ version_now u.log = ap (λ x. x.shown) same in
    ((n, is ∙ ap (λ k. settled_line k n) all), subst (λ (x : Analysts). Agrees s (record now { settled = true }) x) (sym same) (with_settle s now u g), omega (one, all, low, arith))
step s now u (Ok (command.Ask q)) text t g (is, same) =
    let there = stays s now u t g same in
    let told = subst (λ (r : Result Report (List ℕ)). MatchResult r (λ report. ReportsShown u report text) (λ refusal. text ≡ refusal)) (asked_is s now u q g) is in
    (answers_asked s now u (asked s.network (slots_after s (shown_by now u)) q) text g told, there.0, there.1)
step s now u (Err fault.NotJson) text t g (is, same) = let there = stays s now u t g same in (is, there.0, there.1)
step s now u (Err (fault.NotCommand place)) text t g (is, same) = let there = stays s now u t g same in (is, there.0, there.1)
step s now u (Err fault.NoMemory) text t g none = absurd none

-- a later loading may have come to be shown
pub meanwhile : (s : ScenarioData) (now : Standing) (u w : Analysts) → Agrees s now u → IsShownLater u w → Agrees s now w
meanwhile s now u w g l =
    let same : batches_of w.log ≡ now.accepted = ap (λ x. batches_of x) l.log ∙ g.batches in
    let all : version_now w.log ≡ length now.accepted = version_of_log now w.log same in
    let low = l.later in
    let high = l.finished in
    record {
      opening = ap (λ x. x.opening) l.log ∙ g.opening;
      batches = same;
      finished = omega (all, high, arith);
      fresh = λ is. let before : u.shown ≡ length now.accepted = g.fresh is in omega (before, all, low, high, arith);
    }

-- before the first line
pub begins : (s : ScenarioData) (settles : ℕ) → Agrees s at_first (opening_state s settles)
unfolding batches_of
begins s settles = record { opening = refl; batches = refl; finished = omega arith; fresh = λ _. refl }
