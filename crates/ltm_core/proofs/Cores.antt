-- What the calls of a table make of a core.
use Rattle.std.proofs.Common.{◌≡◌, ℕ, ◌≤◌, [], ◌∷◌, Bool, true, false, IsTrue, ◌↔◌, cond, inl, inr, refl, ap, sym, subst, ◌∙◌, arith}
use Rattle.std.specs.Prelude.{None, is_some}
use Rattle.ltm_loading.specs.Setting.{Setting, IsSetting}
use Rattle.ltm_loading.specs.Loading.{IsLoading}
use Rattle.ltm_setting.specs.Setting.{setting_of}
use Rattle.ltm_repair.specs.Desk.{Desk, IsAtRest}
use Rattle.ltm_loading.specs.Differing.{sum_pairs}
use Rattle.ltm_loading.proofs.PairSums.{le-sum_pairs, sum_pairs-none}
use Rattle.ltm_repair.proofs.Cases.{cases_option}
use Rattle.ltm_repair.specs.Counting.{claims_out}
use Rattle.ltm_repair.specs.State.{RepairState, now}
use Rattle.ltm_repair.specs.Repair.{IsRepair}
use Rattle.ltm_repair.specs.Events.{CoreEvent, Happens, OnlyDesk}
use Rattle.ltm_repair.specs.Answers.{IsNoneClaimed}
use Rattle.ltm_repair.specs.Kept.{RunsKeepFacts, RestIsLoading}
use Rattle.ltm_working.specs.declared.table.Table.{Table}
use Rattle.ltm_working.specs.Desks.{changed_at}
use Rattle.ltm_working.specs.Cells.{count_cells}
use Rattle.ltm_working.specs.Ready.{IsReady}
use Rattle.ltm_core.specs.Cores.{CoreData, desk_in, repair_of, IsResting, IsNoneOut, claims_of, IsCore}
use Rattle.ltm_core.proofs.Logs.{last_scenario}

-- the setting of the repair is that of the scenario
pub core_now : (d : CoreData) → IsCore d → now (repair_of d) ≡ setting_of d.scenario
unfolding repair_of
core_now d is = ap setting_of (last_scenario d.log ∙ is.scenario)

-- its desk is that of the table
pub core_desk : (d : CoreData) → (repair_of d).desk ≡ desk_in d
unfolding repair_of
core_desk d = refl

pub core_setting : (d : CoreData) → IsCore d → IsSetting (setting_of d.scenario)
core_setting d is = subst IsSetting (core_now d is) (is.repair.history.valid (repair_of d).accepted (omega arith))

-- one event keeps the facts
pub after_event : RunsKeepFacts → (s e : RepairState) (x : CoreEvent) → IsRepair s → Happens s x e → IsRepair e
after_event law s e x is step = law s e (x ∷ []) is (e, step, refl)

-- another table, of which the facts hold
pub core_with : (d : CoreData) (t : Table) → IsCore d → IsReady (setting_of d.scenario) t → IsRepair (repair_of (record d { table = t })) → IsCore (record d { table = t })
core_with d t is ready repair = record { log = is.log; scenario = is.scenario; valid = is.valid; repair = repair; ready = ready; shows = is.shows; room = is.room }

-- where the table's cells stay, all but the desk stays
pub only_desk : (d : CoreData) (t : Table) → changed_at (setting_of d.scenario) t ≡ changed_at (setting_of d.scenario) d.table → OnlyDesk (repair_of d) (repair_of (record d { table = t }))
unfolding repair_of
only_desk d t cells = record { books = record { settings = refl; accepted = refl; settled = refl; shown_at = refl; shown = refl }; commits = refl; changed = cells }

-- ---- rest, and claims that are out
pub rests_here : (d : CoreData) → IsCore d → IsResting d → IsAtRest (setting_of d.scenario) (desk_in d)
unfolding IsResting
rests_here d is rest =
    subst (λ (e : Desk). IsAtRest (setting_of d.scenario) e) (core_desk d) (subst (λ (z : Setting). IsAtRest z (repair_of d).desk) (core_now d is) rest)

pub rests_there : (d : CoreData) → IsCore d → IsAtRest (setting_of d.scenario) (desk_in d) → IsResting d
unfolding IsResting
rests_there d is rest =
    subst (λ (z : Setting). IsAtRest z (repair_of d).desk) (sym (core_now d is)) (subst (λ (e : Desk). IsAtRest (setting_of d.scenario) e) (sym (core_desk d)) rest)

pub none_there : (d : CoreData) → IsCore d → IsNoneClaimed (setting_of d.scenario) (desk_in d) → IsNoneOut d
unfolding IsNoneOut
none_there d is none =
    subst (λ (z : Setting). IsNoneClaimed z (repair_of d).desk) (sym (core_now d is)) (subst (λ (e : Desk). IsNoneClaimed (setting_of d.scenario) e) (sym (core_desk d)) none)

pub rests_at : (d v : CoreData) (r : Bool) → d ≡ v → IsCore d → (IsTrue r ↔ IsAtRest (setting_of d.scenario) (desk_in d)) → IsTrue r ↔ IsResting v
rests_at d v r same is told =
    let here : IsTrue r ↔ IsResting d = (λ t. rests_there d is (told.0 t), λ rest. told.1 (rests_here d is rest)) in
    subst (λ (z : CoreData). IsTrue r ↔ IsResting z) same here

pub not_resting_at : (d v : CoreData) (r : Bool) → d ≡ v → IsCore d → (IsTrue r ↔ IsAtRest (setting_of d.scenario) (desk_in d)) → r ≡ false → IsResting v → ⊥
not_resting_at d v r same is told off rest = let on : r ≡ true = (rests_at d v r same is told).1 rest in absurd (cc)

resting_there : (d : CoreData) → IsResting d → IsAtRest (now (repair_of d)) (repair_of d).desk
unfolding IsResting
resting_there d rest = rest

-- at rest the working counts are the loading
pub rest_here : RestIsLoading → (d : CoreData) → IsCore d → IsAtRest (setting_of d.scenario) (desk_in d) → IsLoading (setting_of d.scenario) (desk_in d).counts
rest_here law d is rest =
    let there : IsAtRest (now (repair_of d)) (repair_of d).desk = resting_there d (rests_there d is rest) in
    subst (λ (e : Desk). IsLoading (setting_of d.scenario) e.counts) (core_desk d)
    (subst (λ (z : Setting). IsLoading z (repair_of d).desk.counts) (core_now d is) (law (repair_of d) is.repair there))

-- ---- what is counted
counts_cells : (d : CoreData) (n : ℕ) → n ≡ count_cells (setting_of d.scenario) (changed_at (setting_of d.scenario) d.table) → n ≡ count_cells (setting_of d.scenario) (repair_of d).changed
unfolding repair_of
counts_cells d n is = is

pub core_cells_at : (d v : CoreData) (n : ℕ) → d ≡ v → n ≡ count_cells (setting_of d.scenario) (changed_at (setting_of d.scenario) d.table) → n ≡ count_cells (setting_of v.scenario) (repair_of v).changed
core_cells_at d v n same is = subst (λ (z : CoreData). n ≡ count_cells (setting_of z.scenario) (repair_of z).changed) same (counts_cells d n is)

claims_here : (d : CoreData) → IsCore d → claims_out (setting_of d.scenario).nodes (setting_of d.scenario).slots (desk_in d) ≡ claims_of d
unfolding claims_of
claims_here d is =
    ap (λ (e : Desk). claims_out (setting_of d.scenario).nodes (setting_of d.scenario).slots e) (sym (core_desk d))
    ∙ ap (λ (z : Setting). claims_out z.nodes z.slots (repair_of d).desk) (sym (core_now d is))

pub core_claims_out_at : (d v : CoreData) (n : ℕ) → d ≡ v → IsCore d → n ≡ claims_out (setting_of d.scenario).nodes (setting_of d.scenario).slots (desk_in d) → n ≡ claims_of v
core_claims_out_at d v n same is at = at ∙ (claims_here d is ∙ ap claims_of same)

-- ---- none is out exactly where none is counted
claim_counts : (d : Desk) (u t n : ℕ) → n ≡ cond {A = ℕ} (is_some (d.claimed u t)) 1 0 → n ≡ 0 → d.claimed u t ≡ None
claim_counts d u t n is none = elim (cases_option (d.claimed u t)) [
  | inl free ↦ free
  | inr some ↦ let one : cond {A = ℕ} (is_some (d.claimed u t)) 1 0 ≡ 1 = rw some.1 refl in absurd (omega arith)
]

none_counted : (s : Setting) (d : Desk) → (claims_out s.nodes s.slots d ≡ 0) ↔ IsNoneClaimed s d
unfolding claims_out
none_counted s d =
    let f : ℕ → ℕ → ℕ = λ a b. cond (is_some (d.claimed a b)) 1 0 in (
      λ none u t x l. let low : f u t ≤ sum_pairs s.nodes s.slots f = le-sum_pairs s.nodes s.slots f u t x l in claim_counts d u t (f u t) refl (omega (none, low, arith)),
      λ free. sum_pairs-none s.nodes s.slots f (λ u t x l. rw (free u t x l) refl),
    )

none_out_here : (d : CoreData) → (claims_of d ≡ 0) ↔ IsNoneOut d
unfolding claims_of IsNoneOut
none_out_here d = none_counted (now (repair_of d)) (repair_of d).desk

pub none_out_at : (v : CoreData) (n : ℕ) → n ≡ claims_of v → (n ≡ 0) ↔ IsNoneOut v
none_out_at v n at = (λ none. (none_out_here v).0 (sym at ∙ none), λ free. at ∙ (none_out_here v).1 free)
