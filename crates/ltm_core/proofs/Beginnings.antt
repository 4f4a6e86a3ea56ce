-- How a core begins.
use Rattle.std.proofs.Common.{◌≡◌, ℕ, ◌<◌, ◌≤◌, [], false, refl, ap, sym, subst, ◌∙◌, arith, lit<}
use Rattle.ltm_scenario.specs.Data.{ScenarioData}
use Rattle.ltm_scenario.specs.IsScenario.{IsScenario}
use Rattle.ltm_scenario.specs.Valid.{IsValid}
use Rattle.ltm_units.proofs.Sums.{sum_below-same}
use Rattle.ltm_curve.specs.TotalCurves.{total_at}
use Rattle.ltm_loading.specs.Setting.{Setting, IsSetting}
use Rattle.ltm_loading.specs.Loading.{IsLoading}
use Rattle.ltm_loading.specs.LoadingTotals.{HaveTotals}
use Rattle.ltm_loading.specs.LoadingLaws.{OneLoading}
use Rattle.ltm_setting.specs.Setting.{setting_of}
use Rattle.ltm_flows.specs.declared.loading.Loading.{Loading}
use Rattle.ltm_flows.specs.Shown.{Shows, curves_of, version_of, last_of, loading_room}
use Rattle.ltm_repair.specs.Desk.{IsSettled}
use Rattle.ltm_repair.specs.State.{now}
use Rattle.ltm_repair.specs.Repair.{IsOpening}
use Rattle.ltm_working.specs.declared.table.Table.{Table}
use Rattle.ltm_working.specs.Desks.{desk_at}
use Rattle.ltm_working.specs.Ready.{IsOpened}
use Rattle.ltm_core.specs.Log.{Log, HoldsAccepted, batches_of, version_now, settled_of, scenario_at, scenario_now}
use Rattle.ltm_core.specs.Settling.{setting_at}
use Rattle.ltm_core.specs.Laws.{RepairLaws}
use Rattle.ltm_core.specs.Cores.{CoreData, repair_of, IsResting, IsNoneOut, IsAlike, IsLog, IsCore}
use Rattle.ltm_core.specs.CoreAnswers.{IsOpeningCore}
use Rattle.ltm_core.specs.Histories.{CameBy}
use Rattle.ltm_core.proofs.Histories.{came_begun}
use Rattle.ltm_core.proofs.Shapes.{alike_refl}

-- the log of a core that begins
abbrev pub first_log : ScenarioData → Log
first_log s = record { opening = s; batches = [] }

-- the core of a scenario when it begins
abbrev pub begun : ScenarioData → Table → Loading → CoreData
begun s t l = record { log = first_log s; scenario = s; table = t; shown = l; commits = 0; stopped = false; history = [] }

first_now : (s : ScenarioData) → scenario_now (first_log s) ≡ s
unfolding scenario_now batches_of
first_now s = refl

first_at : (s : ScenarioData) (k : ℕ) → k ≤ version_now (first_log s) → scenario_at (first_log s) k ≡ s
unfolding scenario_at batches_of version_now
first_at s k l = let none : k ≡ 0 = omega arith in ap (λ (n : ℕ). scenario_at (first_log s) n) none

now_begun : (s : ScenarioData) (t : Table) (l : Loading) → now (repair_of (begun s t l)) ≡ setting_of s
unfolding repair_of version_now
now_begun s t l = ap setting_of (first_at s 0 (omega arith))

opening_of : OneLoading → (s : ScenarioData) (t : Table) (l : Loading) → IsSetting (setting_of s) → IsOpened (setting_of s) t → Shows (setting_of s) 0 l →
    now (repair_of (begun s t l)) ≡ setting_of s → IsOpening (repair_of (begun s t l))
unfolding repair_of version_now settled_of
opening_of law s t l is o shows at =
    let P : Setting → Type 0 = λ z. HaveTotals z (desk_at (setting_of s) t).counts (total_at (curves_of l)) in
    let Q : Setting → Type 0 = λ z. (u v : ℕ) → u < z.nodes → v < z.slots → IsSettled z (desk_at (setting_of s) t) u v in
    record {
      rest = record {
        setting = subst IsSetting (sym at) is;
        loading = subst (λ (z : Setting). IsLoading z (desk_at (setting_of s) t).counts) (sym at) o.loading;
        kept = subst Q (sym at) o.kept;
        idle = o.idle;
      };
      shows = subst P (sym at) (λ g k x low.
          shows.1.totals g k x low
          ∙ sum_below-same (setting_of s).destinations (λ e. shows.0 g e k) (λ e. (desk_at (setting_of s) t).counts g e k) (λ e m. law (setting_of s) shows.0 (desk_at (setting_of s) t).counts is shows.1.loading o.loading g e k x m low));
      accepted = refl;
      settled = refl;
      shown_at = shows.1.version;
      commits = refl;
      none_changed = o.none_changed;
    }

log_begun : (s : ScenarioData) → IsScenario s → IsValid s → IsLog (first_log s)
unfolding HoldsAccepted batches_of version_now
log_begun s is valid = record {
  accepted = tt;
  scenarios = λ k l. subst IsScenario (sym (first_at s k l)) is;
  alike = λ k l. subst (λ (z : ScenarioData). IsAlike s z) (sym (first_at s k l)) (alike_refl s);
  few = lit< tt;
  valid = valid;
  amounts = λ k d low. absurd (omega arith);
}

shows_begun : (s : ScenarioData) (l : Loading) → Shows (setting_of s) 0 l → Shows (setting_at (first_log s) (version_of l)) (version_of l) l
shows_begun s l shows =
    let at : setting_at (first_log s) 0 ≡ setting_of s = ap setting_of (first_at s 0 (omega arith)) in
    let P : ℕ → Type 0 = λ n. Shows (setting_at (first_log s) n) n l in
    subst P (sym shows.1.version) (subst (λ (z : Setting). Shows z 0 l) (sym at) shows)

pub core_begins : RepairLaws → OneLoading → (s : ScenarioData) (t : Table) (l : Loading) → IsScenario s → IsValid s → IsSetting (setting_of s) → IsOpened (setting_of s) t → Shows (setting_of s) 0 l →
    last_of l ≤ loading_room l → IsCore (begun s t l)
core_begins laws law s t l scenario valid is o shows room = record {
  log = log_begun s scenario valid;
  scenario = first_now s;
  valid = valid;
  repair = laws.opening (repair_of (begun s t l)) (opening_of law s t l is o shows (now_begun s t l));
  ready = o.ready;
  shows = shows_begun s l shows;
  room = omega (shows.1.shape.same_slots, room, arith);
}

rests_begun : (s : ScenarioData) (t : Table) (l : Loading) → IsOpened (setting_of s) t → IsResting (begun s t l)
unfolding IsResting repair_of
rests_begun s t l o = λ u v x low. o.idle u v

none_begun : (s : ScenarioData) (t : Table) (l : Loading) → IsOpened (setting_of s) t → IsNoneOut (begun s t l)
unfolding IsNoneOut repair_of
none_begun s t l o = λ u v x low. (o.idle u v).1

pub core_begun : (s : ScenarioData) (t : Table) (l : Loading) → IsOpened (setting_of s) t → Shows (setting_of s) 0 l → IsOpeningCore s (begun s t l)
core_begun s t l o shows = record {
  log = refl;
  scenario = refl;
  shown = shows.1.version;
  commits = refl;
  running = refl;
  history = refl;
  rest = rests_begun s t l o;
  none_out = none_begun s t l o;
}

pub core_came_at : (s : ScenarioData) (log : Log) (t : Table) (l : Loading) → log ≡ first_log s → IsCore (begun s t l) → IsOpened (setting_of s) t → Shows (setting_of s) 0 l →
    CameBy (record (begun s t l) { log = log })
core_came_at s log t l made is o shows = subst (λ (z : Log). CameBy (record (begun s t l) { log = z })) (sym made) (came_begun (begun s t l) is (core_begun s t l o shows))

-- the log that is kept is the first one
pub first_kept : (s o : ScenarioData) (log : Log) → o ≡ s → log ≡ first_log o → log ≡ first_log s
first_kept s o log same begun = begun ∙ ap first_log same

pub core_begins_at : (s : ScenarioData) (log : Log) (t : Table) (l : Loading) → log ≡ first_log s → IsCore (begun s t l) → IsCore (record (begun s t l) { log = log })
core_begins_at s log t l made is = subst (λ (z : Log). IsCore (record (begun s t l) { log = z })) (sym made) is

pub core_begun_at : (s : ScenarioData) (log : Log) (t : Table) (l : Loading) → log ≡ first_log s → IsOpened (setting_of s) t → Shows (setting_of s) 0 l → IsOpeningCore s (record (begun s t l) { log = log })
core_begun_at s log t l made o shows = subst (λ (z : Log). IsOpeningCore s (record (begun s t l) { log = z })) (sym made) (core_begun s t l o shows)
