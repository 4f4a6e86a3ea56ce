-- The steps of a settle make the settle of the machine, with its exact count.
use Rattle.std.proofs.Common.{ℕ, ◌≡◌, ◌+◌, ◌≤◌, ap, sym, subst, ◌∙◌, arith}
use Rattle.ltm_flows.specs.Counts.{Counts}
use Rattle.ltm_loading.specs.Loading.{IsLoading}
use Rattle.ltm_flows.specs.Shown.{version_of}
use Rattle.ltm_core.specs.Log.{Log, LogLaws, with_mark, version_now, settled_of}
use Rattle.ltm_core.specs.Settling.{IsSettleCount, IsExactCount, setting_at}
use Rattle.ltm_core.specs.Cores.{CoreData, IsShownOf, IsResting, IsNoneOut}
use Rattle.ltm_core.specs.CoreAnswers.{SettlesAll}
use Rattle.ltm_core.specs.Runs.{HoldsOfCore}
use Rattle.ltm_core.specs.Told.{settles_of}
use Rattle.ltm_session.specs.Analysts.{state_of, settled}
use Rattle.ltm_session.specs.Answers.{IsScenarioOf, CountsAlone}
use Rattle.ltm_session.specs.Ready.{AwaitsLine}
use Rattle.ltm_session.specs.Settles.{IsRepaired, IsShowing, SettlesAlone}

-- where no pair is active or claimed, none is claimed
pub rest_none_out : (d : CoreData) → IsResting d → IsNoneOut d
unfolding IsResting IsNoneOut
rest_none_out d rest = λ u t a b. (rest u t a b).1

-- a core settles: it is repaired from d to r, shows this at p, and is counted at e
pub record SettlesCore (d r p e : CoreData) (n : ℕ) : Type 0 where
  pub before : HoldsOfCore d
  pub awaits : AwaitsLine d
  pub shown : IsShownOf d.log d.shown
  pub repaired : IsRepaired d r
  pub showing : IsShowing r p
  pub after : HoldsOfCore p
  pub counted : SettlesAll p n e
  pub last : HoldsOfCore e

log_shown : (d r p e : CoreData) (n : ℕ) → SettlesCore d r p e n → p.log ≡ d.log
log_shown d r p e n so = so.showing.log ∙ so.repaired.log

all_shown : (d r p e : CoreData) (n : ℕ) → SettlesCore d r p e n → version_of p.shown ≡ version_now d.log
all_shown d r p e n so = so.showing.shown ∙ ap version_now so.repaired.log

log_settled : (d r p e : CoreData) (n : ℕ) → SettlesCore d r p e n → e.log ≡ with_mark d.log
log_settled d r p e n so = ap (λ (x : CoreData). x.log) so.counted.keeps ∙ ap with_mark (log_shown d r p e n so)

shown_settled : (d r p e : CoreData) (n : ℕ) → SettlesCore d r p e n → version_of e.shown ≡ version_now d.log
shown_settled d r p e n so = ap (λ (x : CoreData). version_of x.shown) so.counted.keeps ∙ all_shown d r p e n so

settled_exactly : (d r p e : CoreData) (n : ℕ) → SettlesCore d r p e n → IsExactCount d.log n
unfolding IsExactCount
settled_exactly d r p e n so =
    let log = log_shown d r p e n so in
    let before : Counts = so.before.core.shows.0 in
    let after : Counts = so.after.core.shows.0 in
    let a = subst (λ v. IsLoading (setting_at d.log v) before) so.awaits.shown so.before.core.shows.1.loading in
    let b = subst (λ (l : Log). IsLoading (setting_at l (version_now d.log)) after) log
    (subst (λ v. IsLoading (setting_at p.log v) after) (all_shown d r p e n so) so.after.core.shows.1.loading) in (
      subst (λ (l : Log). IsSettleCount l n) log so.counted.counts,
      (before, after, a, b, so.counted.told ∙ so.showing.commits ∙ so.repaired.counts so.awaits.uncounted before after a b),
    )

scenario_of : (d : CoreData) (k : ℕ) → HoldsOfCore d → k ≤ version_now d.log → IsScenarioOf d.log k
scenario_of d k holds few = record { scenario = holds.core.log.scenarios k few; network = (holds.core.log.alike k few).network }

settled_alone : (d r p e : CoreData) (n : ℕ) → SettlesCore d r p e n → CountsAlone d.log n
settled_alone d r p e n so =
    let few : settled_of d.log ≤ version_now d.log = subst (λ v. v ≤ version_now d.log) so.awaits.shown so.shown.is_version in
    record {
      before = scenario_of d (settled_of d.log) so.before few;
      after = scenario_of d (version_now d.log) so.before (omega arith);
      exact = settled_exactly d r p e n so;
    }

settled_once : (d r p e : CoreData) (n : ℕ) → SettlesCore d r p e n → settles_of e ≡ settles_of d + 1
settled_once d r p e n so =
    let one : settles_of e ≡ 1 + settles_of p = ap (λ (x : CoreData). settles_of x) so.counted.keeps in
    let a = so.showing.settles in let b = so.repaired.settles in omega (one, a, b, arith)

settled_state : (d r p e : CoreData) (n : ℕ) → SettlesCore d r p e n → state_of e ≡ settled (state_of d)
settled_state d r p e n so =
    ap (λ (l : Log). record { log = l; shown = version_of e.shown; settles = settles_of e }) (log_settled d r p e n so)
    ∙ ap (λ v. record { log = with_mark d.log; shown = v; settles = settles_of e }) (shown_settled d r p e n so)
    ∙ ap (λ k. record { log = with_mark d.log; shown = version_now d.log; settles = k }) (settled_once d r p e n so)

settled_rests : (laws : LogLaws) (d r p e : CoreData) (n : ℕ) → SettlesCore d r p e n → IsResting e
settled_rests laws d r p e n so =
    let up_to_date : version_of e.shown ≡ version_now e.log =
    shown_settled d r p e n so ∙ sym (laws.version_mark d.log) ∙ sym (ap version_now (log_settled d r p e n so)) in
    (so.last.up_to_date up_to_date).0

settled_awaits : (laws : LogLaws) (d r p e : CoreData) (n : ℕ) → SettlesCore d r p e n → AwaitsLine e
settled_awaits laws d r p e n so = record {
  none_out = rest_none_out e (settled_rests laws d r p e n so);
  uncounted = ap (λ (x : CoreData). x.commits) so.counted.keeps;
  shown = shown_settled d r p e n so ∙ sym (laws.settled_mark d.log) ∙ sym (ap settled_of (log_settled d r p e n so));
}

pub settles_alone : (laws : LogLaws) (d r p e : CoreData) (n : ℕ) → SettlesCore d r p e n → SettlesAlone d n e
settles_alone laws d r p e n so = record {
  state = settled_state d r p e n so;
  count = settled_alone d r p e n so;
  rest = settled_rests laws d r p e n so;
  awaits = settled_awaits laws d r p e n so;
}
