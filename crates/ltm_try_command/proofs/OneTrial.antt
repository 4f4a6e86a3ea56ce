-- Two numbers have one report.
use Rattle.std.proofs.Common.{ℕ, ◌≡◌, ◌++◌, List, inl, inr, length, ap, sym, subst, ◌∙◌, refl, arith}
use Rattle.std.proofs.lemmas.Bool.{cases_lt}
use Rattle.ltm_flows.specs.Counts.{Counts}
use Rattle.ltm_scenario.specs.Network.{NetworkData}
use Rattle.ltm_scenario.specs.declared.edit.Edit.{Edit}
use Rattle.ltm_scenario.specs.Data.{ScenarioData}
use Rattle.ltm_loading.specs.Setting.{Setting, IsSetting}
use Rattle.ltm_loading.specs.LoadingLaws.{OneLoading}
use Rattle.ltm_loading.specs.Totals.{generated, arrived, on_links, waiting}
use Rattle.ltm_loading.specs.Differing.{differing}
use Rattle.ltm_loading.proofs.Same.{AgreeTo}
use Rattle.ltm_setting.specs.Setting.{setting_of}
use Rattle.ltm_setting.specs.ScenarioLaw.{ScenariosAreSettings}
use Rattle.ltm_times.specs.Times.{time_spent}
use Rattle.ltm_times.proofs.Alike.{agree, arrived_same, on_links_same, waiting_same, spent_same, differing_same}
use Rattle.ltm_report.specs.Totals.{totals_line}
use Rattle.ltm_report.specs.Made.{work_line}
use Rattle.ltm_report.specs.Reports.{totals_report}
use Rattle.ltm_make.specs.Grid.{IsWidth}
use Rattle.ltm_make.specs.MadeCase.{made_from, batch_of}
use Rattle.ltm_core.specs.Log.{edited_or}
use Rattle.ltm_try_command.specs.Trial.{size_of, work_of, trial_lines, IsTrialOf, TellsTrial}
use Rattle.ltm_try_command.specs.Laws.{OneTrial}

-- ---- the lines
totals_same : (s : Setting) (a b : Counts) (version : ℕ) → AgreeTo s a b s.slots → totals_report version s a ≡ totals_report version s b
unfolding totals_report
totals_same s a b version same =
    ap (λ x. totals_line version (generated s s.slots) x (on_links s a s.slots) (waiting s a s.slots)) (arrived_same s a b s.slots same (omega arith))
    ∙ ap (λ x. totals_line version (generated s s.slots) (arrived s b s.slots) x (waiting s a s.slots)) (on_links_same s a b same)
    ∙ ap (λ x. totals_line version (generated s s.slots) (arrived s b s.slots) (on_links s b s.slots) x) (waiting_same s a b same)

work_same : (s e : Setting) (a b c d : Counts) → differing s e a c ≡ differing s e b d → AgreeTo e c d e.slots → work_of s e a c ≡ work_of s e b d
unfolding work_of
work_same s e a b c d differ same =
    ap (λ x. work_line x x (time_spent e c)) differ ∙ ap (λ x. work_line (differing s e b d) (differing s e b d) x) (spent_same e c d same)

lines_same : (s e : Setting) (a b c d : Counts) → differing s e a c ≡ differing s e b d → AgreeTo s a b s.slots → AgreeTo e c d e.slots → trial_lines s e a c ≡ trial_lines s e b d
unfolding trial_lines
lines_same s e a b c d differ same_s same_e =
    ap (λ x. size_of s ++ x ++ totals_report 1 e c ++ work_of s e a c) (totals_same s a b 0 same_s)
    ∙ ap (λ x. size_of s ++ totals_report 0 s b ++ x ++ work_of s e a c) (totals_same e c d 1 same_e)
    ∙ ap (λ x. size_of s ++ totals_report 0 s b ++ totals_report 1 e d ++ x) (work_same s e a b c d differ same_e)

-- ---- of a scenario and its batch
nodes_in : (s : ScenarioData) → (setting_of s).nodes ≡ length s.network.nodes
unfolding setting_of
nodes_in s = refl

of_once : OneLoading → ScenariosAreSettings → (s e : ScenarioData) (x y : List ℕ) → IsTrialOf s e x → IsTrialOf s e y → x ≡ y
of_once one settings s e x y a b =
    let is_s : IsSetting (setting_of s) = settings s a.scenario in
    let is_e : IsSetting (setting_of e) = settings e a.edited in
    let same_s = agree (setting_of s) a.before b.before one is_s a.loads b.loads in
    let same_e = agree (setting_of e) a.after b.after one is_e a.reloads b.reloads in
    let nodes = nodes_in e ∙ ap (λ (n : NetworkData). length n.nodes) a.network ∙ sym (nodes_in s) in
    let differ = differing_same (setting_of s) (setting_of e) a.before b.before a.after b.after nodes is_s is_e same_s same_e in
    a.lines ∙ lines_same (setting_of s) (setting_of e) a.before b.before a.after b.after differ same_s same_e ∙ sym b.lines

told_once : OneLoading → ScenariosAreSettings → (s : ScenarioData) (batch : List Edit) (x y : List ℕ) → TellsTrial s batch x → TellsTrial s batch y → x ≡ y
told_once one settings s batch x y (e, made, a) (f, made_too, b) =
    let same : f ≡ e = ap (edited_or s) (sym made_too ∙ made) in
    of_once one settings s e x y a (subst (λ (z : ScenarioData). IsTrialOf s z y) same b)

-- ---- of two numbers
width_once : (nodes v w : ℕ) → IsWidth nodes v → IsWidth nodes w → v ≡ w
width_once nodes v w a b =
    elim (cases_lt v w) [
      | inl less ↦ let few = b.least v less in let enough = a.enough in absurd (omega (few, enough, arith))
      | inr no_less ↦
          elim (cases_lt w v) [
            | inl less ↦ let few = a.least w less in let enough = b.enough in absurd (omega (few, enough, arith))
            | inr no_more ↦ omega (no_less, no_more, arith)
          ]
    ]

pub one_trial_holds : OneLoading → ScenariosAreSettings → OneTrial
one_trial_holds one settings start nodes x y a b =
    let same : b.width ≡ a.width = width_once nodes b.width a.width b.is_width a.is_width in
    let P : ℕ → Type 0 = λ w. TellsTrial (made_from start nodes w).scenario (batch_of nodes (made_from start nodes w)) y in
    told_once one settings (made_from start nodes a.width).scenario (batch_of nodes (made_from start nodes a.width)) x y a.tells (subst P same b.tells)
