-- What a settle count and a stop make of a core.
use Rattle.std.proofs.Common.{◌≡◌, ℕ, ◌+◌, ◌-◌, ◌≤◌, List, ◌∷◌, Bool, All, refl, ap, sym, subst, ◌∙◌, arith}
use Rattle.ltm_units.specs.Sums.{sum_below}
use Rattle.ltm_loading.specs.Setting.{Setting}
use Rattle.ltm_scenario.specs.Data.{ScenarioData}
use Rattle.ltm_scenario.specs.IsScenario.{IsScenario}
use Rattle.ltm_setting.specs.Setting.{setting_of}
use Rattle.ltm_flows.specs.declared.loading.Loading.{Loading}
use Rattle.ltm_flows.specs.Shown.{Shows, version_of}
use Rattle.ltm_repair.specs.State.{RepairState, all_differences, IsSettleCount as IsCountOf}
use Rattle.ltm_repair.specs.Repair.{IsRepair}
use Rattle.ltm_repair.specs.Events.{CoreEvent, Settle, Settled}
use Rattle.ltm_repair.specs.Settling.{SettleTells}
use Rattle.ltm_scenario.specs.Edits.{HaveAmounts}
use Rattle.ltm_scenario.specs.Valid.{IsValid}
use Rattle.ltm_core.specs.Log.{Log, batches_of, version_now, settled_of, scenario_at, with_mark}
use Rattle.ltm_core.specs.Settling.{setting_at, difference, IsSettleCount, SettleCountsAreExact}
use Rattle.ltm_core.specs.Laws.{RepairLaws}
use Rattle.ltm_core.specs.Cores.{CoreData, repair_of, IsResting, IsAlike, IsLog, IsCore}
use Rattle.ltm_core.specs.CoreAnswers.{SettlesAll}
use Rattle.ltm_core.specs.Histories.{CameBy}
use Rattle.ltm_core.proofs.Logs.{version_marked, settled_marked, marked_scenario, marked_now, opening_marked, batches_marked, holds_marked}
use Rattle.ltm_core.proofs.Cores.{after_event}
use Rattle.ltm_core.proofs.Histories.{repair_told, core_told, came_more, came_stays}

-- ---- settle counts
abbrev pub after_settle : CoreData → CoreData
after_settle d = record d { log = with_mark d.log; commits = 0 }

marked_settings : (log : Log) → setting_at (with_mark log) ≡ setting_at log
marked_settings log = λ i k. setting_of (marked_scenario log k i)

settled_of_core : (d : CoreData) → version_of d.shown ≡ version_now d.log → Settled (repair_of d) d.commits (repair_of (after_settle d))
unfolding repair_of
settled_of_core d at = record {
  up_to_date = at;
  told = refl;
  desk = refl;
  settings = marked_settings d.log;
  accepted = version_marked d.log;
  settled = settled_marked d.log;
  shown_at = refl;
  shown = refl;
  commits = refl;
  changed = refl;
}

-- the bounds of the theory are those of the log
count_of_log : SettleTells → (d : CoreData) (e : RepairState) → IsCore d → Settled (repair_of d) d.commits e → IsSettleCount d.log d.commits
unfolding repair_of IsSettleCount all_differences
count_of_log law d e is step loading are =
    let told : IsCountOf (repair_of d) loading d.commits = law (repair_of d) e d.commits is.repair step loading are in
    (told.at_least, told.at_most)

marked_log : (log : Log) → IsLog log → IsLog (with_mark log)
marked_log log is =
    let same : version_now (with_mark log) ≡ version_now log = version_marked log in
    record {
      accepted = holds_marked log is.accepted;
      scenarios = λ k l. subst IsScenario (sym (marked_scenario log k)) (is.scenarios k (omega arith));
      alike = λ k l. subst (λ (z : ScenarioData). IsAlike (with_mark log).opening z) (sym (marked_scenario log k))
          (subst (λ (z : ScenarioData). IsAlike z (scenario_at log k)) (sym (opening_marked log)) (is.alike k (omega arith)));
      few = omega (is.few, same, arith);
      valid = subst IsValid (sym (opening_marked log)) is.valid;
      amounts = subst (All HaveAmounts) (sym (batches_marked log)) is.amounts;
    }

shows_marked : (log : Log) (v : ℕ) (l : Loading) → Shows (setting_at log v) v l → Shows (setting_at (with_mark log) v) v l
shows_marked log v l shows = subst (λ (z : Setting). Shows z v l) (sym (ap setting_of (marked_scenario log v))) shows

pub core_after_settle : RepairLaws → (d : CoreData) → IsCore d → version_of d.shown ≡ version_now d.log → IsCore (after_settle d)
core_after_settle laws d is at = record {
  log = marked_log d.log is.log;
  scenario = marked_now d.log ∙ is.scenario;
  valid = is.valid;
  repair = after_event laws.keeps (repair_of d) (repair_of (after_settle d)) (Settle d.commits) is.repair (settled_of_core d at);
  ready = is.ready;
  shows = shows_marked d.log (version_of d.shown) d.shown is.shows;
  room = is.room;
}

up_to_date : (d : CoreData) → IsCore d → version_of d.shown ≡ version_now d.log → IsResting d
unfolding IsResting repair_of
up_to_date d is at = is.repair.up_to_date at

-- the core with the count in its history
abbrev pub told_settle : CoreData → Log → List CoreEvent → CoreData
told_settle d log h = record d { log = log; commits = 0; history = h }

settles_all : RepairLaws → (d : CoreData) (h : List CoreEvent) → IsCore d → version_of d.shown ≡ version_now d.log → h ≡ Settle d.commits ∷ d.history → SettlesAll d d.commits (told_settle d (with_mark d.log) h)
settles_all laws d h is at more = record {
  told = refl;
  counts = count_of_log laws.settle d (repair_of (after_settle d)) is (settled_of_core d at);
  rest = up_to_date d is at;
  shown = at;
  settled = subst (λ (e : RepairState). Settled (repair_of d) d.commits e) (sym (repair_told (after_settle d) h)) (settled_of_core d at);
  keeps = ap (λ (k : List CoreEvent). told_settle d (with_mark d.log) k) more;
}

-- the log that is kept is that with the mark
pub core_after_settle_at : RepairLaws → (d : CoreData) (log : Log) (h : List CoreEvent) → log ≡ with_mark d.log → IsCore d → version_of d.shown ≡ version_now d.log → IsCore (told_settle d log h)
core_after_settle_at laws d log h made is at = core_told (record d { log = log; commits = 0 }) h (subst (λ (z : Log). IsCore (record d { log = z; commits = 0 })) (sym made) (core_after_settle laws d is at))

pub came_settle : (d : CoreData) (log : Log) (h : List CoreEvent) → log ≡ with_mark d.log → version_of d.shown ≡ version_now d.log → h ≡ Settle d.commits ∷ d.history → CameBy d → CameBy (told_settle d log h)
came_settle d log h made at more came =
    subst (λ (z : Log). CameBy (told_settle d z h)) (sym made) (came_more d (after_settle d) (Settle d.commits) h refl more (settled_of_core d at) came)

pub core_settles_at : RepairLaws → (d v : CoreData) (log : Log) (h : List CoreEvent) → d ≡ v → log ≡ with_mark d.log → IsCore d → version_of d.shown ≡ version_now d.log → h ≡ Settle d.commits ∷ d.history →
    SettlesAll v d.commits (told_settle d log h)
core_settles_at laws d v log h same made is at more =
    subst (λ (z : Log). SettlesAll v d.commits (told_settle d z h)) (sym made)
    (subst (λ (z : CoreData). SettlesAll z d.commits (told_settle d (with_mark d.log) h)) same (settles_all laws d h is at more))

-- ---- settle counts that are exact
pub settle_counts_are_exact : SettleCountsAreExact
unfolding IsSettleCount
settle_counts_are_exact log loading n are count =
    let F : ℕ → ℕ = λ i. difference log loading (settled_of log + i) (settled_of log + i + 1) in
    let told = count loading are in
    let most : n ≤ sum_below (version_now log - settled_of log) F = told.1 in
    let least : difference log loading (settled_of log) (version_now log) ≤ n = told.0 in
    record {
      none = λ same.
          let z : version_now log - settled_of log ≡ 0 = omega arith in
          let sum : sum_below (version_now log - settled_of log) F ≡ sum_below 0 F = ap (λ m. sum_below m F) z in omega (most, sum, arith);
      one = λ next.
          let z : version_now log - settled_of log ≡ 1 = omega arith in
          let sum : sum_below (version_now log - settled_of log) F ≡ sum_below 1 F = ap (λ m. sum_below m F) z in
          let back : settled_of log + 0 ≡ settled_of log = omega arith in
          let first : F 0 ≡ difference log loading (settled_of log) (settled_of log + 1) = ap (λ k. difference log loading k (k + 1)) back in
          let whole : difference log loading (settled_of log) (settled_of log + 1) ≡ difference log loading (settled_of log) (version_now log) = ap (λ k. difference log loading (settled_of log) k) (sym next) in
          omega (most, sum, first, whole, least, arith);
    }

-- ---- stopping changes nothing of the repair
same_stopped : (d : CoreData) (b : Bool) → repair_of d ≡ repair_of (record d { stopped = b })
unfolding repair_of
same_stopped d b = refl

pub core_stops : (d : CoreData) (b : Bool) → IsCore d → IsCore (record d { stopped = b })
core_stops d b is = record {
  log = is.log;
  scenario = is.scenario;
  valid = is.valid;
  repair = subst (λ (r : RepairState). IsRepair r) (same_stopped d b) is.repair;
  ready = is.ready;
  shows = is.shows;
  room = is.room;
}

pub came_stops : (d : CoreData) (b : Bool) → CameBy d → CameBy (record d { stopped = b })
came_stops d b came = came_stays d (record d { stopped = b }) refl refl (sym (same_stopped d b)) came
