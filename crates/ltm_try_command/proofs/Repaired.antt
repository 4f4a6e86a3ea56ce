-- What one batch makes of a core that has just begun.
use Rattle.std.proofs.Common.{◌≡◌, ℕ, zero, suc, ◌+◌, ◌-◌, ◌*◌, ◌^◌, ◌<◌, ◌≤◌, List, [], refl, ap, sym, subst, ◌∙◌, arith}
use Rattle.std.specs.Prelude.{Ok, IsOk}
use Rattle.ltm_flows.specs.Counts.{Counts}
use Rattle.ltm_scenario.specs.declared.edit.Edit.{Edit}
use Rattle.ltm_scenario.specs.Data.{ScenarioData}
use Rattle.ltm_scenario.specs.IsScenario.{IsScenario}
use Rattle.ltm_scenario.specs.Edits.{edited_all}
use Rattle.ltm_loading.specs.Setting.{Setting}
use Rattle.ltm_loading.specs.Loading.{IsLoading}
use Rattle.ltm_loading.specs.Differing.{differing}
use Rattle.ltm_setting.specs.Setting.{setting_of}
use Rattle.ltm_flows.specs.declared.loading.Loading.{Loading}
use Rattle.ltm_flows.specs.Shown.{Shows, version_of}
use Rattle.ltm_core.specs.Log.{Log, LogLaws, version_now, settled_of, scenario_at, scenario_now, with_batch}
use Rattle.ltm_core.specs.Settling.{setting_at, IsSettleCount, SettleCountsAreExact, AreLoadingsSince}
use Rattle.ltm_core.specs.Cores.{CoreData, repair_of, IsCore, IsShownOf, IsResting}
use Rattle.ltm_core.specs.CoreAnswers.{IsOpeningCore, AcceptsBatch, PublishesAll, SettlesAll}
use Rattle.ltm_workers.specs.Draining.{Works}
use Rattle.ltm_try_command.specs.Repairs.{WorksToRest, Repairs}

-- ---- the log
abbrev bare : ScenarioData → Log
bare s = record { opening = s; batches = [] }

version_bare : (s : ScenarioData) → version_now (bare s) ≡ 0
unfolding version_now
version_bare s = refl

settled_bare : (s : ScenarioData) → settled_of (bare s) ≡ 0
unfolding settled_of
settled_bare s = refl

scenario_first : (log : Log) → scenario_at log 0 ≡ log.opening
unfolding scenario_at
scenario_first log = refl

opening_kept : (log : Log) (batch : List Edit) → (with_batch log batch).opening ≡ log.opening
unfolding with_batch
opening_kept log batch = refl

-- a log with one batch, which no settle count has taken in
pub record HasOneBatch (s : ScenarioData) (log : Log) : Type 0 where
  pub version : version_now log ≡ 1
  pub settled : settled_of log ≡ 0
  pub first : scenario_at log 0 ≡ s
  pub last : scenario_at log 1 ≡ scenario_now log

one_batch : LogLaws → (s : ScenarioData) (batch : List Edit) → HasOneBatch s (with_batch (bare s) batch)
one_batch laws s batch =
    let version : version_now (with_batch (bare s) batch) ≡ 1 = laws.version_batch (bare s) batch ∙ ap (λ (n : ℕ). n + 1) (version_bare s) in
    record {
      version = version;
      settled = laws.settled_batch (bare s) batch ∙ settled_bare s;
      first = scenario_first (with_batch (bare s) batch) ∙ opening_kept (bare s) batch;
      last = ap (λ (k : ℕ). scenario_at (with_batch (bare s) batch) k) (sym version) ∙ laws.last (with_batch (bare s) batch);
    }

pub one_batch_in : LogLaws → (s : ScenarioData) (d e : CoreData) (batch : List Edit) → IsOpeningCore s d → AcceptsBatch d batch e → HasOneBatch s e.log
one_batch_in laws s d e batch opening accepts =
    let is : e.log ≡ with_batch (bare s) batch = ap (λ (z : CoreData). z.log) accepts.keeps ∙ ap (λ (z : Log). with_batch z batch) opening.log in
    let P : Log → Type 0 = λ z. HasOneBatch s z in
    subst P (sym is) (one_batch laws s batch)

-- ---- the count
abbrev two : Counts → Counts → ℕ → Counts
two before after zero = before
two before after (suc k) = after

are_two : (s : ScenarioData) (log : Log) (before after : Counts) → HasOneBatch s log → IsLoading (setting_of s) before → IsLoading (setting_of (scenario_now log)) after → AreLoadingsSince log (two before after)
are_two s log before after one first second zero low high = rw (one.first) first
are_two s log before after one first second (suc zero) low high = rw (one.last) second
are_two s log before after one first second (suc (suc k)) low high = let v = one.version in absurd (omega (v, high, arith))

pub counts_differing : SettleCountsAreExact → (s : ScenarioData) (log : Log) (n : ℕ) → HasOneBatch s log → IsSettleCount log n → (before after : Counts) → IsLoading (setting_of s) before → IsLoading (setting_of (scenario_now log)) after →
    n ≡ differing (setting_of s) (setting_of (scenario_now log)) before after
counts_differing exact s log n one counts before after first second =
    let v = one.version in let z = one.settled in
    let told = (exact log (two before after) n (are_two s log before after one first second) counts).one (omega (v, z, arith)) in
    let P : ℕ → ℕ → Type 0 = λ j k. n ≡ differing (setting_at log j) (setting_at log k) (two before after j) (two before after k) in
    let from : P 0 (version_now log) = subst (λ (j : ℕ). P j (version_now log)) z told in
    let here : P 0 1 = subst (λ (k : ℕ). P 0 k) v from in
    let Q : ScenarioData → ScenarioData → Type 0 = λ a b. n ≡ differing (setting_of a) (setting_of b) before after in
    let left : Q s (scenario_at log 1) = subst (λ (a : ScenarioData). Q a (scenario_at log 1)) one.first here in
    subst (λ (b : ScenarioData). Q s b) one.last left

-- ---- the work
-- the commits fit
few_commits : LogLaws → (s : ScenarioData) (d : CoreData) → IsCore d → HasOneBatch s d.log → d.commits ≤ (setting_of d.scenario).nodes * (setting_of d.scenario).slots
unfolding repair_of
few_commits laws s d is one =
    let fits = is.repair.count.fits in
    let v = one.version in let z = one.settled in
    let same : setting_at d.log (version_now d.log) ≡ setting_of d.scenario = ap (λ (x : ScenarioData). setting_of x) (laws.last d.log ∙ is.scenario) in
    let P : Setting → Type 0 = λ w. d.commits ≤ (version_now d.log - settled_of d.log) * (w.nodes * w.slots) in
    let least : d.commits ≤ (version_now d.log - settled_of d.log) * ((setting_at d.log (version_now d.log)).nodes * (setting_at d.log (version_now d.log)).slots) = omega (fits, arith) in
    let here : d.commits ≤ (version_now d.log - settled_of d.log) * ((setting_of d.scenario).nodes * (setting_of d.scenario).slots) = subst P same least in
    let Q : ℕ → Type 0 = λ n. d.commits ≤ n * ((setting_of d.scenario).nodes * (setting_of d.scenario).slots) in
    let count : version_now d.log - settled_of d.log ≡ 1 = omega (v, z, arith) in
    let all : d.commits ≤ 1 * ((setting_of d.scenario).nodes * (setting_of d.scenario).slots) = subst Q count here in
    omega (all, arith)

pub works_to_rest : (d m e : CoreData) (first between after count : ℕ) → first ≡ 0 → count ≡ after → Works d first m between → Works m between e after → IsResting e → WorksToRest d e count
works_to_rest d m e first between after count at told drove drained rest = record {
  rest = rest;
  keeps = drained.keeps ∙ ap (λ (z : CoreData). record z { table = e.table; commits = e.commits; history = e.history }) drove.keeps;
  solved = λ none.
      let a = drove.commits in let b = drained.commits in let p = drove.steps in let q = drained.steps in omega (at, told, none, a, b, p, q, arith);
}

-- ---- all of it
log_stays : (d e : CoreData) (n : ℕ) → WorksToRest d e n → e.log ≡ d.log
log_stays d e n works = ap (λ (z : CoreData). z.log) works.keeps

commits_none : (s : ScenarioData) (d e : CoreData) (batch : List Edit) → IsOpeningCore s d → AcceptsBatch d batch e → e.commits ≡ 0
commits_none s d e batch opening accepts = ap (λ (z : CoreData). z.commits) accepts.keeps ∙ opening.commits

pub repairs : LogLaws → SettleCountsAreExact → (a b c e f : CoreData) (batch : List Edit) (solved version recomputed pairs : ℕ) → IsCore a → IsOpeningCore a.scenario a → AcceptsBatch a batch b →
    WorksToRest b c solved → IsCore c → pairs ≡ (setting_of c.scenario).nodes * (setting_of c.scenario).slots → pairs < 2 ^ 64 → PublishesAll c version e → IsShownOf e.log e.shown → SettlesAll e recomputed f →
    Repairs a.scenario batch recomputed solved f
repairs laws exact a b c e f batch solved version recomputed pairs is opening accepts works is_c is_pairs small shows is_shown settles =
    let s : ScenarioData = a.scenario in
    let edited : ScenarioData = scenario_now b.log in
    let first : HasOneBatch s b.log = one_batch_in laws s a b batch opening accepts in
    let to_c : c.log ≡ b.log = log_stays b c solved works in
    let to_e : e.log ≡ c.log = ap (λ (z : CoreData). z.log) shows.keeps in
    let P : Log → Type 0 = λ z. HasOneBatch s z in
    let at_c : HasOneBatch s c.log = subst P (sym to_c) first in
    let at_e : HasOneBatch s e.log = subst P (sym to_e) at_c in
    let same : scenario_now e.log ≡ edited = ap (λ (z : Log). scenario_now z) (to_e ∙ to_c) in
    let number : version_of e.shown ≡ 1 = shows.shown ∙ (shows.all ∙ at_c.version) in
    let Q : ℕ → Type 0 = λ k. Shows (setting_at e.log k) k e.shown in
    let shown_one : Shows (setting_of (scenario_at e.log 1)) 1 e.shown = subst Q number is_shown.shows in
    let R : ScenarioData → Type 0 = λ z. Shows (setting_of z) 1 e.shown in
    let shown_now : Shows (setting_of edited) 1 e.shown = subst R (at_e.last ∙ same) shown_one in
    let T : Loading → Type 0 = λ z. Shows (setting_of edited) 1 z in
    let shown_last : f.shown ≡ e.shown = ap (λ (z : CoreData). z.shown) settles.keeps in
    let told = settles.told in
    let same_commits : e.commits ≡ c.commits = ap (λ (z : CoreData). z.commits) shows.keeps in
    let fits = few_commits laws s c is_c at_c in
    let ticks = works.solved (commits_none s a b batch opening accepts) in
    let U : ScenarioData → Type 0 = λ z. edited_all z batch ≡ Ok edited in
    let V : ScenarioData → Type 0 = λ z. (before after : Counts) → IsLoading (setting_of s) before → IsLoading (setting_of z) after → recomputed ≡ differing (setting_of s) (setting_of z) before after in
    let v = at_c.version in
    let there : 1 ≤ version_now c.log = omega (v, arith) in
    let now : scenario_at c.log 1 ≡ edited = at_c.last ∙ ap (λ (z : Log). scenario_now z) to_c in
    let begun : c.log.opening ≡ s = sym (scenario_first c.log) ∙ at_c.first in
    record {
      edited = edited;
      edits = subst U is.scenario accepts.edited;
      scenario = subst (λ (z : ScenarioData). IsScenario z) now (is_c.log.scenarios 1 there);
      network = ap (λ (z : ScenarioData). z.network) (sym now) ∙ ((is_c.log.alike 1 there).network ∙ ap (λ (z : ScenarioData). z.network) begun);
      shows = subst T (sym shown_last) shown_now;
      counts = subst V same (counts_differing exact s e.log recomputed at_e settles.counts);
      same = omega (told, same_commits, fits, is_pairs, small, ticks, arith);
    }

pub version_shown : (c e : CoreData) (version : ℕ) → PublishesAll c version e → version_of e.shown ≡ version_now e.log
version_shown c e version shows =
    let log : e.log ≡ c.log = ap (λ (z : CoreData). z.log) shows.keeps in
    shows.shown ∙ (shows.all ∙ ap (λ (z : Log). version_now z) (sym log))

-- ---- at the start
pub opens_scenario : (d : CoreData) → IsOpeningCore d.scenario d → IsCore d → IsScenario d.scenario
opens_scenario d opening is =
    let same : scenario_at d.log 0 ≡ d.scenario = scenario_first d.log ∙ ap (λ (z : Log). z.opening) opening.log in
    subst (λ (z : ScenarioData). IsScenario z) same (is.log.scenarios 0 (omega arith))

pub opens_shown : (d : CoreData) → IsOpeningCore d.scenario d → IsShownOf d.log d.shown → Shows (setting_of d.scenario) 0 d.shown
opens_shown d opening is_shown =
    let P : ℕ → Type 0 = λ k. Shows (setting_at d.log k) k d.shown in
    let first : Shows (setting_of (scenario_at d.log 0)) 0 d.shown = subst P opening.shown is_shown.shows in
    let same : scenario_at d.log 0 ≡ d.scenario = scenario_first d.log ∙ ap (λ (z : Log). z.opening) opening.log in
    let Q : ScenarioData → Type 0 = λ z. Shows (setting_of z) 0 d.shown in
    subst Q same first

pub still_accepted : (d : CoreData) (batch : List Edit) → IsCore d → IsOk (edited_all d.scenario batch) → IsOk (edited_all (scenario_now d.log) batch)
still_accepted d batch is accepted = let P : ScenarioData → Type 0 = λ z. IsOk (edited_all z batch) in subst P (sym is.scenario) accepted
