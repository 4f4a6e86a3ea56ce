-- A core with more room, and otherwise as before.
use Rattle.std.proofs.Common.{◌≡◌, ℕ, ◌≤◌, refl, sym, subst, arith}
use Rattle.ltm_curve.specs.Counts.{Counts}
use Rattle.ltm_loading.specs.Setting.{Setting}
use Rattle.ltm_setting.specs.Setting.{setting_of}
use Rattle.ltm_flows.specs.declared.loading.Loading.{Loading}
use Rattle.ltm_flows.specs.Shown.{ShowsCounts, Shows, SameLoading, loading_room, version_of}
use Rattle.ltm_repair.specs.State.{RepairState}
use Rattle.ltm_repair.specs.Repair.{IsRepair}
use Rattle.ltm_working.specs.declared.table.Table.{Table}
use Rattle.ltm_working.specs.Ready.{FitsTable}
use Rattle.ltm_working.specs.Growing.{TableSeenAs}
use Rattle.ltm_core.specs.Log.{Log}
use Rattle.ltm_core.specs.Settling.{setting_at}
use Rattle.ltm_core.specs.Cores.{CoreData, repair_of, IsCore}
use Rattle.ltm_core.specs.CoreAnswers.{LooksAs}
use Rattle.ltm_core.specs.Histories.{CameBy}
use Rattle.ltm_core.proofs.Cores.{core_setting}
use Rattle.ltm_core.proofs.Histories.{came_stays}

-- what is shown is as before, and its room no less
pub record SeenAs (old new : Loading) : Type 0 where
  pub same : SameLoading old new
  pub shows : (s : Setting) (version : ℕ) (c : Counts) → ShowsCounts s version c old → ShowsCounts s version c new
  pub room : loading_room old ≤ loading_room new

-- the core with another table and another loading
abbrev pub with_room : CoreData → Table → Loading → CoreData
with_room d t l = record d { table = t; shown = l }

pub repair_same : (d : CoreData) (t : Table) (l : Loading) → FitsTable (setting_of d.scenario) d.table → TableSeenAs d.table t → SeenAs d.shown l → repair_of (with_room d t l) ≡ repair_of d
unfolding repair_of
repair_same d t l fits table shown = rw (table.desk (setting_of d.scenario) fits, table.changed (setting_of d.scenario), shown.same.version, shown.same.totals) refl

shows_still : (log : Log) (a b : Loading) → SeenAs a b → Shows (setting_at log (version_of a)) (version_of a) a → Shows (setting_at log (version_of b)) (version_of b) b
shows_still log a b seen shows =
    let P : ℕ → Type 0 = λ n. Shows (setting_at log n) n b in
    subst P (sym seen.same.version) (shows.0, seen.shows (setting_at log (version_of a)) (version_of a) shows.0 shows.1)

pub core_looks : (d : CoreData) (t : Table) (l : Loading) → IsCore d → TableSeenAs d.table t → SeenAs d.shown l → IsCore (with_room d t l)
core_looks d t l is table shown = record {
  log = is.log;
  scenario = is.scenario;
  valid = is.valid;
  repair = subst (λ (r : RepairState). IsRepair r) (sym (repair_same d t l is.ready.fits table shown)) is.repair;
  ready = table.ready (setting_of d.scenario) (core_setting d is) is.ready;
  shows = shows_still d.log d.shown l shown is.shows;
  room = omega (is.room, shown.room, arith);
}

pub came_looks : (d : CoreData) (t : Table) (l : Loading) → IsCore d → TableSeenAs d.table t → SeenAs d.shown l → CameBy d → CameBy (with_room d t l)
came_looks d t l is table shown came = came_stays d (with_room d t l) refl refl (repair_same d t l is.ready.fits table shown) came

pub looks_as : (d : CoreData) (t : Table) (l : Loading) → IsCore d → TableSeenAs d.table t → SeenAs d.shown l → LooksAs d (with_room d t l)
looks_as d t l is table shown = record {
  log = refl;
  scenario = refl;
  commits = refl;
  stopped = refl;
  history = refl;
  shown = shown.same;
  desk = table.desk (setting_of d.scenario) is.ready.fits;
  repair = repair_same d t l is.ready.fits table shown;
}
