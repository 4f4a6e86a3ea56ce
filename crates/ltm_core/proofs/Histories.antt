-- How the history of a core grows, and what holds of every stretch of it.
use Rattle.std.proofs.Common.{◌≡◌, ℕ, ◌+◌, ◌≤◌, List, [], ◌∷◌, ◌++◌, reverse, refl, ap, sym, subst, ◌∙◌, arith}
use Rattle.std.proofs.lemmas.List.{reverse-append}
use Rattle.ltm_scenario.specs.Data.{ScenarioData}
use Rattle.ltm_repair.specs.State.{RepairState}
use Rattle.ltm_repair.specs.Repair.{IsRepair}
use Rattle.ltm_repair.specs.Events.{CoreEvent, Happens}
use Rattle.ltm_repair.specs.Runs.{CoreRun, in_all, commit_of, commits_of, batch_in, AcceptsNothing}
use Rattle.ltm_repair.specs.Kept.{RunsKeepFacts}
use Rattle.ltm_repair.specs.Work.{NoneTwice}
use Rattle.ltm_core.specs.Cores.{CoreData, repair_of, IsCore}
use Rattle.ltm_core.specs.CoreAnswers.{IsOpeningCore}
use Rattle.ltm_core.specs.Histories.{CameBy}
use Rattle.ltm_core.specs.Log.{Log}
use Rattle.ltm_core.proofs.Telling.{LogAfter, opening_after, log_after, log_begun, log_stays}

-- ---- a run with one event more, and a run that is cut in two
run_more : (s m e : RepairState) (xs : List CoreEvent) (x : CoreEvent) → CoreRun s xs m → Happens m x e → CoreRun s (xs ++ (x ∷ [])) e
run_more s m e [] x same step = (e, subst (λ (z : RepairState). Happens z x e) same step, refl)
run_more s m e (y ∷ ys) x (n, first, rest) step = (n, first, run_more n m e ys x rest step)

run_cut : (s e : RepairState) (xs ys : List CoreEvent) → CoreRun s (xs ++ ys) e → (m : RepairState) × CoreRun s xs m × CoreRun m ys e
run_cut s e [] ys run = (s, refl, run)
run_cut s e (x ∷ xs) ys (n, first, rest) = let cut : (m : RepairState) × CoreRun n xs m × CoreRun m ys e = run_cut n e xs ys rest in (cut.0, (n, first, cut.1), cut.2)

-- ---- how often something happens does not hang on the order
in_both : (f : CoreEvent → ℕ) (xs ys : List CoreEvent) → in_all f (xs ++ ys) ≡ in_all f xs + in_all f ys
in_both f [] ys = omega arith
in_both f (x ∷ xs) ys = let rest : in_all f (xs ++ ys) ≡ in_all f xs + in_all f ys = in_both f xs ys in omega (rest, arith)

pub in_reverse : (f : CoreEvent → ℕ) (xs : List CoreEvent) → in_all f (reverse xs) ≡ in_all f xs
in_reverse f [] = refl
in_reverse f (x ∷ xs) =
    let turned : in_all f (reverse (x ∷ xs)) ≡ in_all f (reverse xs ++ (x ∷ [])) = ap (in_all f) (reverse-append (x ∷ []) xs) in
    let cut : in_all f (reverse xs ++ (x ∷ [])) ≡ in_all f (reverse xs) + (f x + 0) = in_both f (reverse xs) (x ∷ []) in
    let rest : in_all f (reverse xs) ≡ in_all f xs = in_reverse f xs in
    omega (turned, cut, rest, arith)

-- ---- a core with another history
pub repair_told : (d : CoreData) (h : List CoreEvent) → repair_of (record d { history = h }) ≡ repair_of d
unfolding repair_of
repair_told d h = refl

pub core_told : (d : CoreData) (h : List CoreEvent) → IsCore d → IsCore (record d { history = h })
core_told d h is = record {
  log = is.log;
  scenario = is.scenario;
  valid = is.valid;
  repair = subst IsRepair (sym (repair_told d h)) is.repair;
  ready = is.ready;
  shows = is.shows;
  room = is.room;
}

-- ---- how a core came to be what it is
pub came_begun : (d : CoreData) → IsCore d → IsOpeningCore d.log.opening d → CameBy d
came_begun d is begins = record {
  first = d;
  core = is;
  begins = begins;
  run = subst (λ (h : List CoreEvent). CoreRun (repair_of d) (reverse h) (repair_of d)) (sym begins.history) refl;
  log = log_begun d begins.history begins.log;
}

-- the event x leads to m, and is told
pub came_more : (d m : CoreData) (x : CoreEvent) (h : List CoreEvent) → LogAfter x d.log m.log → h ≡ x ∷ d.history → Happens (repair_of d) x (repair_of m) → CameBy d → CameBy (record m { history = h })
came_more d m x h after more step came =
    let same : m.log.opening ≡ d.log.opening = opening_after x d.log m.log after in
    let s : RepairState = repair_of came.first in
    let turned : reverse h ≡ reverse d.history ++ (x ∷ []) = ap reverse more ∙ reverse-append (x ∷ []) d.history in
    let run : CoreRun s (reverse d.history ++ (x ∷ [])) (repair_of m) = run_more s (repair_of d) (repair_of m) (reverse d.history) x came.run step in
    record {
      first = came.first;
      core = came.core;
      begins = subst (λ (z : ScenarioData). IsOpeningCore z came.first) (sym same) came.begins;
      run = subst (λ (e : RepairState). CoreRun s (reverse h) e) (sym (repair_told m h)) (subst (λ (l : List CoreEvent). CoreRun s l (repair_of m)) (sym turned) run);
      log = log_after d (record m { history = h }) x after more came.log;
    }

-- nothing of the repair changes, and nothing is told
pub came_stays : (d e : CoreData) → e.log ≡ d.log → e.history ≡ d.history → repair_of e ≡ repair_of d → CameBy d → CameBy e
came_stays d e same told still came = record {
  first = came.first;
  core = came.core;
  begins = subst (λ (z : Log). IsOpeningCore z.opening came.first) (sym same) came.begins;
  run = subst (λ (z : RepairState). CoreRun (repair_of came.first) (reverse e.history) z) (sym still)
      (subst (λ (l : List CoreEvent). CoreRun (repair_of came.first) (reverse l) (repair_of d)) (sym told) came.run);
  log = log_stays d e same told came.log;
}

-- ---- no pair twice between two batches
twice_in_run : RunsKeepFacts → NoneTwice → (s e : RepairState) (older stretch newer : List CoreEvent) → IsRepair s → CoreRun s ((older ++ stretch) ++ newer) e → AcceptsNothing stretch → (u t : ℕ) → commits_of u t stretch ≤ 1
twice_in_run keeps law s e older stretch newer is run none u t =
    let front : (m : RepairState) × CoreRun s (older ++ stretch) m × CoreRun m newer e = run_cut s e (older ++ stretch) newer run in
    let both : (m : RepairState) × CoreRun s older m × CoreRun m stretch front.0 = run_cut s front.0 older stretch front.1 in
    law both.0 front.0 stretch (keeps s both.0 older is both.1) both.2 none u t

pub none_twice_told : RunsKeepFacts → NoneTwice → (d : CoreData) → CameBy d → (newer stretch older : List CoreEvent) → d.history ≡ newer ++ (stretch ++ older) → AcceptsNothing stretch → (u t : ℕ) →
    commits_of u t stretch ≤ 1
none_twice_told keeps law d came newer stretch older told none u t =
    let turned : reverse d.history ≡ (reverse older ++ reverse stretch) ++ reverse newer =
    ap reverse told ∙ (reverse-append newer (stretch ++ older) ∙ ap (λ (l : List CoreEvent). l ++ reverse newer) (reverse-append stretch older)) in
    let run : CoreRun (repair_of came.first) ((reverse older ++ reverse stretch) ++ reverse newer) (repair_of d) =
    subst (λ (l : List CoreEvent). CoreRun (repair_of came.first) l (repair_of d)) turned came.run in
    let plain : AcceptsNothing (reverse stretch) = in_reverse batch_in stretch ∙ none in
    let most : commits_of u t (reverse stretch) ≤ 1 = twice_in_run keeps law (repair_of came.first) (repair_of d) (reverse older) (reverse stretch) (reverse newer) came.core.repair run plain u t in
    let same : commits_of u t (reverse stretch) ≡ commits_of u t stretch = in_reverse (commit_of u t) stretch in
    omega (most, same, arith)
