-- What a trial's text is.
use Rattle.std.proofs.Common.{◌≡◌, ℕ, ◌+◌, ◌*◌, ◌<◌, ◌≤◌, zero, suc, List, [], ◌++◌, refl, subst, inl, inr, add-zero, arith}
use Rattle.std.proofs.lemmas.Bool.{cases_eq, cases_lt}
use Rattle.ltm_flows.specs.Counts.{Counts}
use Rattle.ltm_scenario.specs.declared.edit.Edit.{Edit}
use Rattle.ltm_scenario.specs.Data.{ScenarioData}
use Rattle.ltm_loading.specs.Setting.{Setting}
use Rattle.ltm_loading.specs.Differing.{differing}
use Rattle.ltm_times.specs.Times.{time_spent}
use Rattle.ltm_report.specs.Made.{work_line}
use Rattle.ltm_report.specs.Reports.{totals_report}
use Rattle.ltm_make.specs.declared.made.Made.{Made}
use Rattle.ltm_make.specs.Grid.{IsWidth}
use Rattle.ltm_make.specs.MadeCase.{made_from, IsMade}
use Rattle.ltm_try_command.specs.Trial.{size_of, work_of, trial_lines, TellsTrial, IsTrial}

-- ---- the width of a grid
find_width : (n fuel k : ℕ) → ((j : ℕ) → j < k → j * j < n) → n ≤ (k + fuel) * (k + fuel) → (w : ℕ) × IsWidth n w
find_width n zero k below enough = (k, record { enough = subst (λ (m : ℕ). n ≤ m * m) (add-zero k) enough; least = below })
find_width n (suc fuel) k below enough =
    elim (cases_lt (k * k) n) [
      | inr fits ↦ (k, record { enough = fits; least = below })
      | inl less ↦
          let same : k + suc fuel ≡ suc k + fuel = omega arith in
          find_width n fuel (suc k) (λ j l.
          elim (cases_eq j k) [
            | inl at ↦ rw (at) less
            | inr other ↦ below j (omega (l, other, arith))
          ]) (subst (λ (m : ℕ). n ≤ m * m) same enough)
    ]

square : (n : ℕ) → n ≤ (0 + n) * (0 + n)
square zero = omega arith
square (suc m) = grind arith

pub some_width : (n : ℕ) → (w : ℕ) × IsWidth n w
some_width n = find_width n n 0 (λ j l. absurd (omega (l, arith))) (square n)

-- ---- the text
pub trial_text : (s e : Setting) (before after : Counts) (recomputed solved : ℕ) (none first text : List ℕ) → none ≡ [] → first ≡ none ++ size_of s ++ totals_report 0 s before →
    text ≡ first ++ totals_report 1 e after ++ work_line recomputed solved (time_spent e after) → recomputed ≡ differing s e before after → solved ≡ recomputed → text ≡ trial_lines s e before after
unfolding trial_lines work_of
trial_text s e before after recomputed solved none first text empty two four counts same = rw (four, two, empty, same, counts) refl

pub is_trial : (start nodes width : ℕ) (made : Made) (text : List ℕ) → IsWidth nodes width → IsMade start nodes width made → TellsTrial made.scenario made.batch text → IsTrial start nodes text
is_trial start nodes width made text is_width is tells =
    let P : ScenarioData → Type 0 = λ z. TellsTrial z made.batch text in
    let Q : List Edit → Type 0 = λ z. TellsTrial (made_from start nodes width).scenario z text in
    record { width = width; is_width = is_width; tells = subst Q is.batch (subst P is.scenario tells) }
