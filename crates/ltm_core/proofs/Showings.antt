-- What publishing and a settle count make of a core.
use Rattle.std.proofs.Common.{◌≡◌, ℕ, ◌+◌, ◌<◌, ◌≤◌, List, ◌∷◌, Bool, false, if◌then◌else◌, refl, ap, sym, subst, ◌∙◌, arith}
use Rattle.ltm_units.specs.Sums.{sum_below}
use Rattle.ltm_units.proofs.Sums.{sum_below-zero}
use Rattle.ltm_curve.specs.Counts.{Counts, total}
use Rattle.ltm_curve.specs.declared.curves.Curves.{Curves}
use Rattle.ltm_curve.specs.declared.changed.Changed.{Changed}
use Rattle.ltm_curve.specs.Table.{groups_of, slots_of, counts_of, total_of}
use Rattle.ltm_curve.specs.TotalCurves.{total_at}
use Rattle.ltm_loading.specs.Shaped.{IsShaped}
use Rattle.ltm_curve.specs.Cells.{is_changed}
use Rattle.ltm_loading.specs.Setting.{Setting}
use Rattle.ltm_loading.specs.Groups.{groups}
use Rattle.ltm_loading.specs.LoadingTotals.{HaveTotals, AreLoadingTotals}
use Rattle.ltm_scenario.specs.Data.{ScenarioData}
use Rattle.ltm_setting.specs.Setting.{setting_of}
use Rattle.ltm_flows.specs.declared.loading.Loading.{Loading}
use Rattle.ltm_flows.specs.Shown.{ShowsCounts, Shows, Fits, AgreesOutside, version_of, curves_of, last_of, loading_room}
use Rattle.ltm_repair.specs.Desk.{IsAtRest}
use Rattle.ltm_repair.specs.State.{RepairState, now}
use Rattle.ltm_repair.specs.Repair.{IsRepair}
use Rattle.ltm_repair.specs.Events.{CoreEvent, Publish, PublishHappened}
use Rattle.ltm_working.specs.declared.table.Table.{Table}
use Rattle.ltm_working.specs.Desks.{desk_at, changed_at}
use Rattle.ltm_working.specs.Cells.{count_cells}
use Rattle.ltm_working.specs.Ready.{IsReady}
use Rattle.ltm_core.specs.Log.{version_now, scenario_at}
use Rattle.ltm_core.specs.Settling.{setting_at}
use Rattle.ltm_core.specs.Laws.{RepairLaws}
use Rattle.ltm_core.specs.Cores.{CoreData, desk_in, repair_of, IsShownOf, IsAlike, IsCore}
use Rattle.ltm_core.specs.CoreAnswers.{PublishesAll}
use Rattle.ltm_core.specs.Histories.{CameBy}
use Rattle.ltm_core.proofs.Logs.{last_scenario}
use Rattle.ltm_core.proofs.Shapes.{SameSizes, same_sizes, shown_fits as fits_of}
use Rattle.ltm_core.proofs.Cores.{core_now, after_event, rests_there}
use Rattle.ltm_core.proofs.Histories.{repair_told, came_more}

-- ---- publishing
-- what publishing makes of table and loading: the cells are cleared, and what is shown is of the working counts
pub record ShowsTable (s : Setting) (version : ℕ) (old new : Table) (l : Loading) : Type 0 where
  pub desk : desk_at s new ≡ desk_at s old
  pub ready : IsReady s new
  pub cleared : (g k : ℕ) → changed_at s new g k ≡ false
  pub shows : ShowsCounts s version (desk_at s old).counts l
  pub room : s.slots ≤ loading_room l

abbrev pub after_publish : CoreData → Table → Loading → CoreData
after_publish d t l = record d { table = t; shown = l }

shown_of : (d : CoreData) (t : Table) (l : Loading) → now (repair_of d) ≡ setting_of d.scenario → IsAtRest (setting_of d.scenario) (desk_in d) →
    ShowsTable (setting_of d.scenario) (version_now d.log) d.table t l → PublishHappened (repair_of d) (repair_of (after_publish d t l))
unfolding repair_of
shown_of d t l at rest step =
    let s : Setting = setting_of d.scenario in
    let P : Setting → Type 0 = λ z. IsAtRest z (desk_in d) in
    let Q : Setting → Type 0 = λ z. AreLoadingTotals z (total_at (curves_of l)) in
    let R : Setting → Type 0 = λ z. HaveTotals z (desk_in d).counts (total_at (curves_of l)) in
    record {
      rest = subst P (sym at) rest;
      desk = step.desk;
      settings = refl;
      accepted = refl;
      settled = refl;
      shown_at = step.shows.version;
      shows = subst Q (sym at) (record { counts = (desk_in d).counts; loading = step.shows.loading; sums = step.shows.totals });
      agree = subst R (sym at) step.shows.totals;
      commits = refl;
      none_changed = step.cleared;
    }

pub core_publishes : (d : CoreData) (t : Table) (l : Loading) → IsCore d → IsAtRest (setting_of d.scenario) (desk_in d) →
    ShowsTable (setting_of d.scenario) (version_now d.log) d.table t l → PublishHappened (repair_of d) (repair_of (after_publish d t l))
core_publishes d t l is rest step = shown_of d t l (core_now d is) rest step

shows_last : (d : CoreData) (l : Loading) → IsCore d → Shows (setting_of d.scenario) (version_now d.log) l → Shows (setting_at d.log (version_of l)) (version_of l) l
shows_last d l is shows =
    let P : Setting → Type 0 = λ z. Shows z (version_now d.log) l in
    let Q : ℕ → Type 0 = λ n. Shows (setting_at d.log n) n l in
    subst Q (sym shows.1.version) (subst P (sym (ap setting_of (last_scenario d.log ∙ is.scenario))) shows)

pub core_after_publish : RepairLaws → (d : CoreData) (t : Table) (l : Loading) → IsCore d → IsAtRest (setting_of d.scenario) (desk_in d) →
    ShowsTable (setting_of d.scenario) (version_now d.log) d.table t l → IsCore (after_publish d t l)
core_after_publish laws d t l is rest step = record {
  log = is.log;
  scenario = is.scenario;
  valid = is.valid;
  repair = after_event laws.keeps (repair_of d) (repair_of (after_publish d t l)) Publish is.repair (core_publishes d t l is rest step);
  ready = step.ready;
  shows = shows_last d l is ((desk_in d).counts, step.shows);
  room = step.room;
}

-- no cell is counted where none is changed
none_counted : (s : Setting) (test : ℕ → ℕ → Bool) → ((g k : ℕ) → test g k ≡ false) → count_cells s test ≡ 0
none_counted s test none =
    sum_below-zero (s.slots + 1) (λ k. sum_below (groups s) (λ g. if test g k then 1 else 0)) (λ k l.
    sum_below-zero (groups s) (λ g. if test g k then 1 else 0) (λ g x. rw (none g k) refl))

-- the core with the publishing in its history
abbrev pub told_publish : CoreData → Table → Loading → List CoreEvent → CoreData
told_publish d t l h = record d { table = t; shown = l; history = h }

cleared_of : (d : CoreData) (t : Table) (l : Loading) (h : List CoreEvent) → ((g k : ℕ) → changed_at (setting_of d.scenario) t g k ≡ false) →
    count_cells (setting_of d.scenario) (repair_of (told_publish d t l h)).changed ≡ 0
unfolding repair_of
cleared_of d t l h none = none_counted (setting_of d.scenario) (changed_at (setting_of d.scenario) t) none

pub came_publish : (d : CoreData) (t : Table) (l : Loading) (h : List CoreEvent) → IsCore d → IsAtRest (setting_of d.scenario) (desk_in d) → ShowsTable (setting_of d.scenario) (version_now d.log) d.table t l →
    h ≡ Publish ∷ d.history → CameBy d → CameBy (told_publish d t l h)
came_publish d t l h is rest step more came = came_more d (after_publish d t l) Publish h refl more (core_publishes d t l is rest step) came

publishes_all : (d : CoreData) (t : Table) (l : Loading) (h : List CoreEvent) (version : ℕ) → version ≡ version_now d.log → IsCore d → IsAtRest (setting_of d.scenario) (desk_in d) →
    ShowsTable (setting_of d.scenario) (version_now d.log) d.table t l → h ≡ Publish ∷ d.history → PublishesAll d version (told_publish d t l h)
publishes_all d t l h version at is rest step more = record {
  all = at;
  rest = rests_there d is rest;
  shown = step.shows.version ∙ sym at;
  published = subst (λ (e : RepairState). PublishHappened (repair_of d) e) (sym (repair_told (after_publish d t l) h)) (core_publishes d t l is rest step);
  cleared = cleared_of d t l h step.cleared;
  keeps = ap (λ (k : List CoreEvent). told_publish d t l k) more;
}

pub core_publishes_at : (d v : CoreData) (t : Table) (l : Loading) (h : List CoreEvent) (version : ℕ) → d ≡ v → version ≡ version_now d.log → IsCore d → IsAtRest (setting_of d.scenario) (desk_in d) →
    ShowsTable (setting_of d.scenario) (version_now d.log) d.table t l → h ≡ Publish ∷ d.history → PublishesAll v version (told_publish d t l h)
core_publishes_at d v t l h version same at is rest step more = subst (λ (z : CoreData). PublishesAll z version (told_publish d t l h)) same (publishes_all d t l h version at is rest step more)

-- ---- what is shown
pub shown_low : (d : CoreData) → IsCore d → version_of d.shown ≤ version_now d.log
unfolding repair_of
shown_low d is = is.repair.shows.accepted_last

pub shown_less : (d v : CoreData) → d ≡ v → version_of d.shown < version_now d.log → version_of v.shown < version_now v.log
shown_less d v same l = subst (λ (z : CoreData). version_of z.shown < version_now z.log) same l

core_shape : (d : CoreData) → IsCore d → IsAlike d.log.opening d.scenario
core_shape d is = subst (λ (z : ScenarioData). IsAlike d.log.opening z) (last_scenario d.log ∙ is.scenario) (is.log.alike (version_now d.log) (omega arith))

pub core_network_at : (d v : CoreData) → d ≡ v → IsCore d → d.scenario.network ≡ v.log.opening.network
core_network_at d v same is = subst (λ (z : CoreData). d.scenario.network ≡ z.log.opening.network) same (core_shape d is).network

core_shown : (d : CoreData) → IsCore d → IsShownOf d.log d.shown
core_shown d is =
    let low : version_of d.shown ≤ version_now d.log = shown_low d is in
    record {
      is_version = low;
      shows = is.shows;
      scenario = is.log.scenarios (version_of d.shown) low;
      network = (is.log.alike (version_of d.shown) low).network;
    }

pub core_shown_at : (d v : CoreData) → d ≡ v → IsCore d → IsShownOf v.log v.shown
core_shown_at d v same is = subst (λ (z : CoreData). IsShownOf z.log z.shown) same (core_shown d is)

-- ---- what is shown has the sizes of the present setting but for a longer horizon, and its totals but in the changed cells
shown_sizes : (d : CoreData) → IsCore d → SameSizes (setting_at d.log (version_of d.shown)) (setting_of d.scenario)
shown_sizes d is =
    let was : IsAlike d.log.opening (scenario_at d.log (version_of d.shown)) = is.log.alike (version_of d.shown) (shown_low d is) in
    let now : IsAlike d.log.opening d.scenario = core_shape d is in
    same_sizes (scenario_at d.log (version_of d.shown)) d.scenario (now.network ∙ sym was.network) (now.destinations ∙ sym was.destinations)

longer_here : (d : CoreData) → now (repair_of d) ≡ setting_of d.scenario → IsRepair (repair_of d) → (k : ℕ) → k ≤ version_now d.log → (setting_at d.log k).slots ≤ (setting_of d.scenario).slots
unfolding repair_of
longer_here d at is k l = subst (λ (z : Setting). (setting_at d.log k).slots ≤ z.slots) at (is.history.horizon k l)

shown_shorter : (d : CoreData) → IsCore d → (setting_at d.log (version_of d.shown)).slots ≤ (setting_of d.scenario).slots
shown_shorter d is = longer_here d (core_now d is) is.repair (version_of d.shown) (shown_low d is)

pub core_fits : (d : CoreData) → IsCore d → Fits (setting_of d.scenario) d.shown
core_fits d is = fits_of (setting_at d.log (version_of d.shown)) (setting_of d.scenario) (version_of d.shown) d.shown (shown_sizes d is) (shown_shorter d is) is.shows is.room

agrees_here : (d : CoreData) → now (repair_of d) ≡ setting_of d.scenario → IsRepair (repair_of d) → (g k : ℕ) → g < groups (setting_of d.scenario) →
    changed_at (setting_of d.scenario) d.table g k ≡ false → k ≤ (setting_at d.log (version_of d.shown)).slots →
    total_at (curves_of d.shown) g k ≡ total (setting_of d.scenario).destinations ((desk_in d).counts g) k
unfolding repair_of
agrees_here d at is =
    let P : Setting → Type 0 = λ z. (g k : ℕ) → g < groups z → changed_at (setting_of d.scenario) d.table g k ≡ false →
    k ≤ (setting_at d.log (version_of d.shown)).slots → total_at (curves_of d.shown) g k ≡ total z.destinations ((desk_in d).counts g) k in
    subst P at is.shows.agree

agrees_in : (d : CoreData) (c : Curves) (x : Changed) → IsCore d → IsShaped (setting_of d.scenario) c → (desk_in d).counts ≡ counts_of c →
    ((g k : ℕ) → g < groups (setting_of d.scenario) → k ≤ (setting_of d.scenario).slots → is_changed x g k ≡ changed_at (setting_of d.scenario) d.table g k) →
    (g k : ℕ) → g < groups_of c → k ≤ last_of d.shown → is_changed x g k ≡ false → total_at (curves_of d.shown) g k ≡ total_of c g k
agrees_in d c x is shape same cells g k inside low off =
    let in_groups : g < groups (setting_of d.scenario) = omega (inside, shape.same_groups, arith) in
    let in_shown : k ≤ (setting_at d.log (version_of d.shown)).slots = omega (low, is.shows.1.shape.same_slots, arith) in
    let in_slots : k ≤ (setting_of d.scenario).slots = omega (in_shown, shown_shorter d is, arith) in
    agrees_here d (core_now d is) is.repair g k in_groups (sym (cells g k in_groups in_slots) ∙ off) in_shown
    ∙ (ap (λ (f : Counts). total (setting_of d.scenario).destinations (f g) k) same ∙ ap (λ (n : ℕ). total n (counts_of c g) k) (sym shape.same_destinations))

beyond_here : (d : CoreData) → now (repair_of d) ≡ setting_of d.scenario → IsRepair (repair_of d) → (g e k : ℕ) → g < groups (setting_of d.scenario) → e < (setting_of d.scenario).destinations →
    changed_at (setting_of d.scenario) d.table g k ≡ false → (setting_at d.log (version_of d.shown)).slots < k → k ≤ (setting_of d.scenario).slots → (desk_in d).counts g e k ≡ 0
unfolding repair_of
beyond_here d at is =
    let P : Setting → Type 0 = λ z. (g e k : ℕ) → g < groups z → e < z.destinations → changed_at (setting_of d.scenario) d.table g k ≡ false →
    (setting_at d.log (version_of d.shown)).slots < k → k ≤ z.slots → (desk_in d).counts g e k ≡ 0 in
    subst P at is.shows.beyond

none_beyond : (d : CoreData) (c : Curves) (x : Changed) → IsCore d → IsShaped (setting_of d.scenario) c → (desk_in d).counts ≡ counts_of c →
    ((g k : ℕ) → g < groups (setting_of d.scenario) → k ≤ (setting_of d.scenario).slots → is_changed x g k ≡ changed_at (setting_of d.scenario) d.table g k) →
    (g k : ℕ) → g < groups_of c → k ≤ slots_of c → last_of d.shown < k → is_changed x g k ≡ false → total_of c g k ≡ 0
none_beyond d c x is shape same cells g k inside high late off =
    let in_groups : g < groups (setting_of d.scenario) = omega (inside, shape.same_groups, arith) in
    let in_slots : k ≤ (setting_of d.scenario).slots = omega (high, shape.same_slots, arith) in
    let past : (setting_at d.log (version_of d.shown)).slots < k = omega (late, is.shows.1.shape.same_slots, arith) in
    sum_below-zero _ (λ e. counts_of c g e k) (λ e m.
    let in_destinations : e < (setting_of d.scenario).destinations = omega (m, shape.same_destinations, arith) in
    sym (ap (λ (f : Counts). f g e k) same) ∙ beyond_here d (core_now d is) is.repair g e k in_groups in_destinations (sym (cells g k in_groups in_slots) ∙ off) past in_slots)

pub core_agrees : (d : CoreData) (c : Curves) (x : Changed) → IsCore d → IsShaped (setting_of d.scenario) c → (desk_in d).counts ≡ counts_of c →
    ((g k : ℕ) → g < groups (setting_of d.scenario) → k ≤ (setting_of d.scenario).slots → is_changed x g k ≡ changed_at (setting_of d.scenario) d.table g k) → AgreesOutside d.shown c x
core_agrees d c x is shape same cells = record { agree = agrees_in d c x is shape same cells; beyond = none_beyond d c x is shape same cells }
