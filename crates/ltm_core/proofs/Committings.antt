-- What a commit makes of a core.
use Rattle.std.proofs.Common.{◌≡◌, ℕ, ◌+◌, ◌-◌, ◌*◌, ◌<◌, ◌≤◌, ◌^◌, List, ◌∷◌, Bool, false, cond, refl, ap, sym, subst, ◌∙◌, arith, lit<}
use Rattle.std.specs.Prelude.{◌||◌, Some, is_some}
use Rattle.std.proofs.lemmas.Bool.{lt-ltb, le-leb}
use Rattle.ltm_units.specs.Bounds.{most_nodes, most_slots}
use Rattle.ltm_units.specs.declared.places.Pair.{Pair}
use Rattle.ltm_node.specs.Inputs.{Inputs}
use Rattle.ltm_loading.specs.Setting.{Setting, IsSetting}
use Rattle.ltm_loading.specs.Groups.{groups}
use Rattle.ltm_loading.specs.Differing.{sum_pairs}
use Rattle.ltm_loading.proofs.PairSums.{le-sum_pairs}
use Rattle.ltm_setting.specs.Setting.{setting_of}
use Rattle.ltm_repair.specs.Desk.{Desk}
use Rattle.ltm_repair.specs.Facts.{IsClaim}
use Rattle.ltm_repair.specs.Counting.{undone, claims_out}
use Rattle.ltm_repair.specs.State.{RepairState, now}
use Rattle.ltm_repair.specs.Repair.{IsRepair}
use Rattle.ltm_repair.specs.Moves.{Commits}
use Rattle.ltm_repair.specs.Events.{CoreEvent, Commit, CommitHappened}
use Rattle.ltm_repair.specs.Work.{ClaimsAreUndone}
use Rattle.ltm_repair.proofs.Cases.{or_none}
use Rattle.ltm_pairs.specs.Changes.{differs_at}
use Rattle.ltm_pairs.proofs.Bools.{same_at}
use Rattle.ltm_working.specs.declared.table.Table.{Table}
use Rattle.ltm_working.specs.Desks.{desk_at, changed_at}
use Rattle.ltm_working.specs.Ready.{IsReady}
use Rattle.ltm_working.specs.Committing.{readers, rewritten, CommitsPair}
use Rattle.ltm_core.specs.Log.{version_now, settled_of}
use Rattle.ltm_core.specs.Laws.{RepairLaws}
use Rattle.ltm_core.specs.Cores.{CoreData, desk_in, repair_of, IsCore}
use Rattle.ltm_core.specs.CoreAnswers.{IsKeptClaim, CommitsDone}
use Rattle.ltm_core.specs.Histories.{CameBy}
use Rattle.ltm_core.proofs.Widths.{grown}
use Rattle.ltm_core.proofs.Histories.{repair_told, came_more}
use Rattle.ltm_core.proofs.Cores.{core_now, core_setting, after_event}
use Rattle.ltm_core.proofs.Claimings.{kept_in}

-- a cell in which no count became another one has the same counts
same_cells : (s : Setting) (old new : Desk) (g e k : ℕ) → g < groups s → e < s.destinations → k ≤ s.slots → rewritten s old new g k ≡ false → new.counts g e k ≡ old.counts g e k
same_cells s old new g e k x y l off =
    let inside : differs_at s old.counts new.counts g k ≡ false = (rw (lt-ltb g (groups s) x, le-leb k s.slots l) at off) in
    sym (same_at s old.counts new.counts g k e inside y)

abbrev pub after_commit : CoreData → Table → CoreData
after_commit d t = record d { table = t; commits = d.commits + 1 }

committed_of : (d : CoreData) (t : Table) (u v : ℕ) (row : List ℕ) → now (repair_of d) ≡ setting_of d.scenario → CommitsPair (setting_of d.scenario) d.table u v row t →
    CommitHappened (repair_of d) u v row (readers (setting_of d.scenario) (desk_in d) (desk_at (setting_of d.scenario) t) u v) (repair_of (after_commit d t))
unfolding repair_of
committed_of d t u v row at step =
    let s : Setting = setting_of d.scenario in
    let wakes : ℕ → ℕ → Bool = readers s (desk_in d) (desk_at s t) u v in
    let P : Setting → Type 0 = λ z. (g e k : ℕ) → g < groups z → e < z.destinations → k ≤ z.slots → changed_at s t g k ≡ false → (desk_at s t).counts g e k ≡ (desk_in d).counts g e k in
    record {
      desk = subst (λ (z : Setting). Commits z (desk_in d) u v row wakes (desk_at s t)) (sym at) step.commits;
      books = record { settings = refl; accepted = refl; settled = refl; shown_at = refl; shown = refl };
      commits = refl;
      changes = record {
        stays = λ g k off. (or_none (changed_at s d.table g k) (rewritten s (desk_in d) (desk_at s t) g k) (sym (step.cells g k) ∙ off)).0;
        same = subst P (sym at) (λ g e k x y l off.
            same_cells s (desk_in d) (desk_at s t) g e k x y l (or_none (changed_at s d.table g k) (rewritten s (desk_in d) (desk_at s t) g k) (sym (step.cells g k) ∙ off)).1);
      };
    }

pub core_commits : (d : CoreData) (t : Table) (u v : ℕ) (row : List ℕ) → IsCore d → CommitsPair (setting_of d.scenario) d.table u v row t →
    CommitHappened (repair_of d) u v row (readers (setting_of d.scenario) (desk_in d) (desk_at (setting_of d.scenario) t) u v) (repair_of (after_commit d t))
core_commits d t u v row is step = committed_of d t u v row (core_now d is) step

pub core_after_commit : RepairLaws → (d : CoreData) (t : Table) (u v : ℕ) (row : List ℕ) → IsCore d → IsReady (setting_of d.scenario) t → CommitsPair (setting_of d.scenario) d.table u v row t →
    IsCore (after_commit d t)
core_after_commit laws d t u v row is ready step = record {
  log = is.log;
  scenario = is.scenario;
  valid = is.valid;
  repair = after_event laws.keeps (repair_of d) (repair_of (after_commit d t)) (Commit u v) is.repair
      (row, readers (setting_of d.scenario) (desk_in d) (desk_at (setting_of d.scenario) t) u v, core_commits d t u v row is step);
  ready = ready;
  shows = is.shows;
  room = is.room;
}

pub came_commit : (d : CoreData) (t : Table) (h : List CoreEvent) (u v : ℕ) (row : List ℕ) → IsCore d → CommitsPair (setting_of d.scenario) d.table u v row t → h ≡ Commit u v ∷ d.history → CameBy d →
    CameBy (record (after_commit d t) { history = h })
came_commit d t h u v row is step more came =
    came_more d (after_commit d t) (Commit u v) h refl more (row, readers (setting_of d.scenario) (desk_in d) (desk_at (setting_of d.scenario) t) u v, core_commits d t u v row is step) came

-- the core with the commit in its history
abbrev pub told_commit : CoreData → Table → List CoreEvent → CoreData
told_commit d t h = record d { table = t; commits = d.commits + 1; history = h }

cells_of : (d : CoreData) (t : Table) (h : List CoreEvent) (u v : ℕ) (row : List ℕ) → CommitsPair (setting_of d.scenario) d.table u v row t →
    (g k : ℕ) → (repair_of (told_commit d t h)).changed g k ≡ ((repair_of d).changed g k || rewritten (setting_of d.scenario) (desk_in d) (desk_in (told_commit d t h)) g k)
unfolding repair_of
cells_of d t h u v row step = step.cells

pub commits_done : (d : CoreData) (t : Table) (h : List CoreEvent) (pair : Pair) (row : List ℕ) → IsCore d → CommitsPair (setting_of d.scenario) d.table pair.node.0 pair.slot row t →
    h ≡ Commit pair.node.0 pair.slot ∷ d.history → CommitsDone d pair row (told_commit d t h)
commits_done d t h pair row is step more =
    let wakes : ℕ → ℕ → Bool = readers (setting_of d.scenario) (desk_in d) (desk_at (setting_of d.scenario) t) pair.node.0 pair.slot in
    record {
      commits = subst (λ (e : RepairState). CommitHappened (repair_of d) pair.node.0 pair.slot row wakes e) (sym (repair_told (after_commit d t) h)) (core_commits d t pair.node.0 pair.slot row is step);
      cells = cells_of d t h pair.node.0 pair.slot row step;
      keeps = ap (λ (l : List CoreEvent). told_commit d t l) more;
    }

pub core_commits_at : (d v : CoreData) (t : Table) (h : List CoreEvent) (pair : Pair) (row : List ℕ) → d ≡ v → IsCore d → CommitsPair (setting_of d.scenario) d.table pair.node.0 pair.slot row t →
    h ≡ Commit pair.node.0 pair.slot ∷ d.history → CommitsDone v pair row (told_commit d t h)
core_commits_at d v t h pair row same is step more = subst (λ (z : CoreData). CommitsDone z pair row (told_commit d t h)) same (commits_done d t h pair row is step more)

-- ---- one more commit can be counted
claim_undone : ClaimsAreUndone → (s : Setting) (d : Desk) (u t : ℕ) (row : List ℕ) → u < s.nodes → t < s.slots → d.claimed u t ≡ Some row → 1 ≤ undone s.nodes s.slots d
unfolding claims_out
claim_undone law s d u t row x l some =
    let f : ℕ → ℕ → ℕ = λ a b. cond (is_some (d.claimed a b)) 1 0 in
    let one : f u t ≡ 1 = rw some refl in
    let low : f u t ≤ sum_pairs s.nodes s.slots f = le-sum_pairs s.nodes s.slots f u t x l in
    let high : claims_out s.nodes s.slots d ≤ undone s.nodes s.slots d = (law s.nodes s.slots d).0 in
    let same : claims_out s.nodes s.slots d ≡ sum_pairs s.nodes s.slots f = refl in
    omega arith

fits_of : (d : CoreData) → now (repair_of d) ≡ setting_of d.scenario → IsRepair (repair_of d) →
    d.commits + undone (setting_of d.scenario).nodes (setting_of d.scenario).slots (desk_in d) ≤ (version_now d.log - settled_of d.log) * ((setting_of d.scenario).nodes * (setting_of d.scenario).slots)
unfolding repair_of
fits_of d at is =
    let P : Setting → Type 0 = λ z. d.commits + undone z.nodes z.slots (desk_in d) ≤ (version_now d.log - settled_of d.log) * (z.nodes * z.slots) in
    subst P at is.count.fits

pub commits_few : RepairLaws → (d : CoreData) (u t : ℕ) (row : List ℕ) → IsCore d → (desk_in d).claimed u t ≡ Some row → (setting_of d.scenario).nodes ≤ most_nodes → d.commits + 1 < 2 ^ 128
commits_few laws d u t row is claimed few =
    let s : Setting = setting_of d.scenario in
    let claim : IsClaim s (desk_in d) u t row = is.ready.sound.claims u t row claimed in
    let some : 1 ≤ undone s.nodes s.slots (desk_in d) = claim_undone laws.undone s (desk_in d) u t row claim.is_node claim.is_slot claimed in
    let fits : d.commits + undone s.nodes s.slots (desk_in d) ≤ (version_now d.log - settled_of d.log) * (s.nodes * s.slots) = fits_of d (core_now d is) is.repair in
    let setting : IsSetting s = core_setting d is in
    let pairs : s.nodes * s.slots ≤ most_nodes * most_slots = grown s.nodes most_nodes s.slots most_slots few setting.small.few_slots in
    let all : (version_now d.log - settled_of d.log) * (s.nodes * s.slots) ≤ 2 ^ 63 * (most_nodes * most_slots) =
    grown (version_now d.log - settled_of d.log) (2 ^ 63) (s.nodes * s.slots) (most_nodes * most_slots) (omega (is.log.few, arith)) pairs in
    let most : 2 ^ 63 * (most_nodes * most_slots) < 2 ^ 128 = lit< tt in
    omega arith

pub commits_fit : RepairLaws → (d v : CoreData) (pair : Pair) (ticket : ℕ) (n : Inputs) → d ≡ v → IsCore d → IsKeptClaim v pair ticket n → (setting_of d.scenario).nodes ≤ most_nodes → d.commits + 1 < 2 ^ 128
commits_fit laws d v pair ticket n same is kept few = commits_few laws d pair.node.0 pair.slot n.row is (kept_in d v pair ticket n same kept).claimed few
