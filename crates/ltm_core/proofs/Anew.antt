-- What a pair that is computed anew makes of a core.
use Rattle.std.proofs.Common.{◌≡◌, ℕ, ◌+◌, ◌<◌, ◌≤◌, ◌^◌, List, ◌∷◌, refl, ap, subst, ◌∙◌}
use Rattle.ltm_units.specs.Bounds.{most_nodes}
use Rattle.ltm_units.specs.declared.places.Pair.{Pair}
use Rattle.ltm_setting.specs.Setting.{setting_of}
use Rattle.ltm_repair.specs.Events.{CoreEvent, Look, Claim, Commit}
use Rattle.ltm_repair.specs.Answers.{ClaimAnswer, Got, AnswersClaim}
use Rattle.ltm_working.specs.declared.table.Table.{Table}
use Rattle.ltm_working.specs.Desks.{desk_at, changed_at}
use Rattle.ltm_working.specs.Ready.{IsReady}
use Rattle.ltm_working.specs.Searching.{AnswersSearch}
use Rattle.ltm_working.specs.Recomputing.{RecomputesInTable}
use Rattle.ltm_core.specs.Log.{version_now}
use Rattle.ltm_core.specs.Laws.{RepairLaws}
use Rattle.ltm_core.specs.Cores.{CoreData, desk_in, repair_of, IsCore}
use Rattle.ltm_core.specs.CoreAnswers.{KeepsAll, Adds, RecomputesPair}
use Rattle.ltm_core.specs.Histories.{CameBy}
use Rattle.ltm_core.proofs.Histories.{core_told}
use Rattle.ltm_core.proofs.Claimings.{IsTicket, core_claims_at, core_after_claim, came_claim}
use Rattle.ltm_core.proofs.Committings.{after_commit, told_commit, commits_done, commits_few, core_after_commit, came_commit}

-- the core with the table after the claim is one
between_is : RepairLaws → (d : CoreData) (u t : ℕ) (row : List ℕ) (new : Table) → IsCore d → (step : RecomputesInTable (setting_of d.scenario) d.table u t row new) → IsCore (record d { table = step.between })
between_is laws d u t row new is step = core_after_claim laws d step.between (Got u t (version_now d.log) row) is step.ready step.same (step.claims (version_now d.log)) refl

pub anew_is_core : RepairLaws → (d : CoreData) (u t : ℕ) (row : List ℕ) (new : Table) → IsCore d → IsReady (setting_of d.scenario) new → RecomputesInTable (setting_of d.scenario) d.table u t row new →
    IsCore (after_commit d new)
anew_is_core laws d u t row new is ready step = core_after_commit laws (record d { table = step.between }) new u t row (between_is laws d u t row new is step) ready step.commits

pub anew_fits : RepairLaws → (d : CoreData) (u t : ℕ) (row : List ℕ) (new : Table) → IsCore d → RecomputesInTable (setting_of d.scenario) d.table u t row new → (setting_of d.scenario).nodes ≤ most_nodes → d.commits + 1 < 2 ^ 128
anew_fits laws d u t row new is step few = commits_few laws (record d { table = step.between }) u t row (between_is laws d u t row new is step) (step.claims (version_now d.log)).desk.2.holds few

-- the core between, with the claim in its history
abbrev told_claim : CoreData → Table → ℕ → ℕ → CoreData
told_claim d t u v = record d { table = t; history = Claim u v ∷ d.history }

told_is : RepairLaws → (d : CoreData) (u t : ℕ) (row : List ℕ) (new : Table) → IsCore d → (step : RecomputesInTable (setting_of d.scenario) d.table u t row new) → IsCore (told_claim d step.between u t)
told_is laws d u t row new is step = core_told (record d { table = step.between }) (Claim u t ∷ d.history) (between_is laws d u t row new is step)

-- first the claim is told, then the commit
pub came_anew : RepairLaws → (d : CoreData) (u t : ℕ) (row : List ℕ) (new : Table) (h k : List CoreEvent) → IsCore d → RecomputesInTable (setting_of d.scenario) d.table u t row new →
    h ≡ Claim u t ∷ d.history → k ≡ Commit u t ∷ h → CameBy d → CameBy (told_commit d new k)
came_anew laws d u t row new h k is step first second came =
    let mid : CameBy (told_claim d step.between u t) =
    came_claim laws d step.between (Got u t (version_now d.log) row) (Claim u t ∷ d.history) is step.same (step.claims (version_now d.log)) refl refl came in
    came_commit (told_claim d step.between u t) new k u t row (told_is laws d u t row new is step) step.commits (second ∙ ap (λ (l : List CoreEvent). Commit u t ∷ l) first) mid

pub core_recomputes_at : RepairLaws → (d v : CoreData) (pair : Pair) (row : List ℕ) (new : Table) (h k : List CoreEvent) → d ≡ v → IsCore d →
    RecomputesInTable (setting_of d.scenario) d.table pair.node.0 pair.slot row new → h ≡ Claim pair.node.0 pair.slot ∷ d.history → k ≡ Commit pair.node.0 pair.slot ∷ h → RecomputesPair v pair (told_commit d new k)
core_recomputes_at laws d v pair row new h k same is step first second =
    let answer : ClaimAnswer = Got pair.node.0 pair.slot (version_now d.log) row in
    let mid : CoreData = told_claim d step.between pair.node.0 pair.slot in
    subst (λ (z : CoreData). RecomputesPair z pair (told_commit d new k)) same (record {
      between = mid;
      row = row;
      claims = core_claims_at d d step.between (Claim pair.node.0 pair.slot ∷ d.history) answer refl is step.same (step.claims (version_now d.log)) refl;
      keeps = refl;
      adds = refl;
      commits = commits_done mid new k pair row (told_is laws d pair.node.0 pair.slot row new is step) step.commits
          (second ∙ ap (λ (l : List CoreEvent). Commit pair.node.0 pair.slot ∷ l) first);
    })

-- no pair was to be had
pub core_looks_at : (d v : CoreData) (t : Table) (h : List CoreEvent) (answer : ClaimAnswer) → d ≡ v → IsCore d → AnswersSearch (setting_of d.scenario) (desk_in d) answer (desk_at (setting_of d.scenario) t) →
    changed_at (setting_of d.scenario) t ≡ changed_at (setting_of d.scenario) d.table → IsTicket answer (version_now d.log) → h ≡ Look ∷ d.history →
    AnswersClaim (repair_of v) answer (repair_of (record d { table = t; history = h })) × KeepsAll v (record d { table = t; history = h }) × Adds v Look (record d { table = t; history = h })
core_looks_at d v t h answer same is told cells at more = (
  core_claims_at d v t h answer same is cells told at,
  ap (λ (z : CoreData). record z { table = t; history = h }) same,
  more ∙ ap (λ (z : CoreData). Look ∷ z.history) same,
)
