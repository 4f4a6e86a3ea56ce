-- What an accepted batch makes of a core.
use Rattle.std.proofs.Common.{◌≡◌, ◌≢◌, ℕ, ◌+◌, ◌<◌, ◌≤◌, ◌^◌, List, [], ◌∷◌, ◌++◌, All, inl, inr, refl, ap, sym, subst, ◌∙◌, arith}
use Rattle.std.specs.Prelude.{Ok, Err}
use Rattle.std.proofs.lemmas.Bool.{cases_eq}
use Rattle.ltm_scenario.specs.declared.edit.Edit.{Edit}
use Rattle.ltm_scenario.specs.declared.edit.EditFault.{EditFault}
use Rattle.ltm_scenario.specs.declared.edit.EditCause.TheVariants.{NoMemory}
use Rattle.ltm_scenario.specs.Data.{ScenarioData}
use Rattle.ltm_scenario.specs.Edits.{edited_all, horizon_after, HaveAmounts}
use Rattle.ltm_scenario.specs.Valid.{IsValid}
use Rattle.std.proofs.lemmas.List.Elements.{All-append, All-cons, All-nil}
use Rattle.ltm_scenario.specs.IsScenario.{IsScenario}
use Rattle.ltm_scenario.specs.Shape.{SameShape}
use Rattle.ltm_loading.specs.Setting.{Setting, IsSetting}
use Rattle.ltm_loading.specs.Networks.{SameNetwork}
use Rattle.ltm_setting.specs.Setting.{setting_of}
use Rattle.ltm_flows.specs.declared.loading.Loading.{Loading}
use Rattle.ltm_flows.specs.Shown.{Shows, loading_room, version_of}
use Rattle.ltm_repair.specs.State.{RepairState, now}
use Rattle.ltm_repair.specs.Moves.{Accepts}
use Rattle.ltm_repair.specs.Events.{CoreEvent, Accept, Accepted}
use Rattle.ltm_pairs.specs.Touched.{HaveSlots, BatchTouchesReaders}
use Rattle.ltm_working.specs.declared.table.Table.{Table}
use Rattle.ltm_working.specs.Desks.{desk_at, changed_at}
use Rattle.ltm_working.specs.Ready.{IsReady}
use Rattle.ltm_working.specs.Growing.{TableSeenAs}
use Rattle.ltm_working.specs.Batches.{LeadsTo, TakesIn, touches}
use Rattle.ltm_core.specs.Log.{Log, batches_of, version_now, scenario_at, scenario_now, with_batch}
use Rattle.ltm_core.specs.Settling.{setting_at}
use Rattle.ltm_core.specs.Laws.{RepairLaws}
use Rattle.ltm_core.specs.Cores.{CoreData, desk_in, repair_of, IsNoneOut, IsAlike, IsLog, IsCore}
use Rattle.ltm_core.specs.CoreAnswers.{AcceptsBatch, LooksAs, TellsAccept}
use Rattle.ltm_core.specs.Taking.{TakesBatch}
use Rattle.ltm_core.specs.Histories.{CameBy}
use Rattle.ltm_scenario.specs.Horizon.{MayReach}
use Rattle.ltm_core.proofs.Logs.{version_batch, settled_batch, earlier_scenario, last_scenario, accepted_now, holds_more, opening_batch, batches_more}
use Rattle.ltm_core.proofs.Cores.{core_now, after_event, none_there}
use Rattle.ltm_core.proofs.Histories.{repair_told, core_told, came_more}
use Rattle.ltm_core.proofs.Showings.{shown_low}
use Rattle.ltm_core.proofs.Shapes.{alike_trans}
use Rattle.ltm_core.proofs.Looking.{SeenAs, with_room, repair_same, core_looks, came_looks, looks_as}

-- the core with the batch
abbrev pub after_accept : CoreData → List Edit → ScenarioData → Table → CoreData
after_accept d batch next t = record d { log = with_batch d.log batch; scenario = next; table = t }

-- what holds once a batch is taken in
record Taken (d : CoreData) (batch : List Edit) (next : ScenarioData) (t : Table) : Type 0 where
  setting : IsSetting (setting_of next)
  network : SameNetwork (setting_of d.scenario) (setting_of next)
  table : TakesIn d.scenario next batch d.table t
  cells : changed_at (setting_of next) t ≡ changed_at (setting_of d.scenario) d.table
  after : scenario_now (with_batch d.log batch) ≡ next

taken_of : (d : CoreData) (batch : List Edit) (next : ScenarioData) (t : Table) → IsCore d → TakesBatch d.scenario next d.table t batch → Taken d batch next t
taken_of d batch next t is takes =
    let edited : edited_all (scenario_now d.log) batch ≡ Ok next = subst (λ (z : ScenarioData). edited_all z batch ≡ Ok next) (sym is.scenario) takes.edited in
    record {
      setting = takes.setting;
      network = takes.network;
      table = takes.table;
      cells = takes.table.cells;
      after = accepted_now d.log batch next edited;
    }

now_after : (d : CoreData) (batch : List Edit) (next : ScenarioData) (t : Table) → scenario_now (with_batch d.log batch) ≡ next → now (repair_of (after_accept d batch next t)) ≡ setting_of next
unfolding repair_of
now_after d batch next t after = ap setting_of (last_scenario (with_batch d.log batch) ∙ after)

accepted_of : (d : CoreData) (batch : List Edit) (next : ScenarioData) (t : Table) → now (repair_of d) ≡ setting_of d.scenario → now (repair_of (after_accept d batch next t)) ≡ setting_of next →
    Taken d batch next t → Accepted (repair_of d) (touches d.scenario batch) (repair_of (after_accept d batch next t))
unfolding repair_of
accepted_of d batch next t was is taken =
    let A : Setting → Setting → Type 0 = λ r s. Accepts r s (desk_in d) (touches d.scenario batch) (desk_at (setting_of next) t) in
    record {
      desk = subst (λ (r : Setting). A r (setting_at (with_batch d.log batch) (version_now (with_batch d.log batch)))) (sym was)
          (subst (λ (s : Setting). A (setting_of d.scenario) s) (sym is) taken.table.accepts);
      setting = subst IsSetting (sym is) taken.setting;
      network = subst (λ (r : Setting). SameNetwork r (setting_at (with_batch d.log batch) (version_now (with_batch d.log batch)))) (sym was)
          (subst (λ (s : Setting). SameNetwork (setting_of d.scenario) s) (sym is) taken.network);
      accepted = version_batch d.log batch;
      settings = λ k low. ap setting_of (earlier_scenario d.log batch k low);
      settled = settled_batch d.log batch;
      shown_at = refl;
      shown = refl;
      commits = refl;
      changed = taken.cells;
    }

pub core_accepted : (d : CoreData) (batch : List Edit) (next : ScenarioData) (t : Table) → IsCore d → TakesBatch d.scenario next d.table t batch →
    Accepted (repair_of d) (touches d.scenario batch) (repair_of (after_accept d batch next t))
core_accepted d batch next t is takes =
    let taken : Taken d batch next t = taken_of d batch next t is takes in
    accepted_of d batch next t (core_now d is) (now_after d batch next t taken.after) taken

-- ---- the log with the batch
all_more : (P : List Edit → Type 0) (batches : List (List Edit)) (batch : List Edit) → All P batches → P batch → All P (batches ++ batch ∷ [])
all_more P batches batch all here = All-append P batches (batch ∷ []) all (All-cons P batch [] here (All-nil P))

log_more : (d : CoreData) (batch : List Edit) (next : ScenarioData) (t : Table) → IsCore d → TakesBatch d.scenario next d.table t batch → version_now d.log + 1 < 2 ^ 63 → IsLog (with_batch d.log batch)
log_more d batch next t is takes few =
    let taken : Taken d batch next t = taken_of d batch next t is takes in
    let edited : edited_all (scenario_now d.log) batch ≡ Ok next = subst (λ (z : ScenarioData). edited_all z batch ≡ Ok next) (sym is.scenario) takes.edited in
    let more : version_now (with_batch d.log batch) ≡ version_now d.log + 1 = version_batch d.log batch in
    let here : IsAlike d.log.opening d.scenario = subst (λ (z : ScenarioData). IsAlike d.log.opening z) (last_scenario d.log ∙ is.scenario) (is.log.alike (version_now d.log) (omega arith)) in
    let last : scenario_at (with_batch d.log batch) (version_now d.log + 1) ≡ next =
    ap (λ (k : ℕ). scenario_at (with_batch d.log batch) k) (sym more) ∙ (last_scenario (with_batch d.log batch) ∙ taken.after) in
    let P : ScenarioData → Type 0 = λ z. IsAlike (with_batch d.log batch).opening z in
    record {
      accepted = holds_more d.log batch next is.log.accepted edited;
      scenarios = λ k l. elim (cases_eq k (version_now d.log + 1)) [
        | inl end ↦ subst IsScenario (sym (ap (λ (i : ℕ). scenario_at (with_batch d.log batch) i) end ∙ last)) takes.scenario
        | inr other ↦ subst IsScenario (sym (earlier_scenario d.log batch k (omega arith))) (is.log.scenarios k (omega arith))
      ];
      alike = λ k l. elim (cases_eq k (version_now d.log + 1)) [
        | inl end ↦ subst P (sym (ap (λ (i : ℕ). scenario_at (with_batch d.log batch) i) end ∙ last))
            (subst (λ (z : ScenarioData). IsAlike z next) (sym (opening_batch d.log batch)) (alike_trans d.log.opening d.scenario next here takes.alike))
        | inr other ↦ subst P (sym (earlier_scenario d.log batch k (omega arith)))
            (subst (λ (z : ScenarioData). IsAlike z (scenario_at d.log k)) (sym (opening_batch d.log batch)) (is.log.alike k (omega arith)))
      ];
      few = omega (more, few, arith);
      valid = subst IsValid (sym (opening_batch d.log batch)) is.log.valid;
      amounts = subst (All HaveAmounts) (sym (batches_more d.log batch)) (all_more HaveAmounts (batches_of d.log) batch is.log.amounts takes.amounts);
    }

pub core_after_accept : RepairLaws → (d : CoreData) (batch : List Edit) (next : ScenarioData) (t : Table) → IsCore d → TakesBatch d.scenario next d.table t batch → version_now d.log + 1 < 2 ^ 63 →
    (setting_of next).slots ≤ loading_room d.shown → IsCore (after_accept d batch next t)
core_after_accept laws d batch next t is takes few room =
    let low : version_of d.shown ≤ version_now d.log = shown_low d is in
    let taken : Taken d batch next t = taken_of d batch next t is takes in
    record {
      log = log_more d batch next t is takes few;
      scenario = taken.after;
      valid = takes.valid;
      repair = after_event laws.keeps (repair_of d) (repair_of (after_accept d batch next t)) Accept is.repair (touches d.scenario batch, core_accepted d batch next t is takes);
      ready = takes.table.ready;
      shows = subst (λ (z : Setting). Shows z (version_of d.shown) d.shown) (sym (ap setting_of (earlier_scenario d.log batch (version_of d.shown) low))) is.shows;
      room = room;
    }

none_after : RepairLaws → (d : CoreData) (batch : List Edit) (next : ScenarioData) (t : Table) (h : List CoreEvent) → IsCore d → TakesBatch d.scenario next d.table t batch → version_now d.log + 1 < 2 ^ 63 →
    (setting_of next).slots ≤ loading_room d.shown → IsNoneOut (record (after_accept d batch next t) { history = h })
none_after laws d batch next t h is takes few room =
    none_there (record (after_accept d batch next t) { history = h }) (core_told (after_accept d batch next t) h (core_after_accept laws d batch next t is takes few room)) (λ u v x l. takes.table.accepts.void u v)

looks_there : (d v m n : CoreData) → d ≡ v → m ≡ n → LooksAs d m → LooksAs v n
looks_there d v m n same at looks = subst (λ (z : CoreData). LooksAs z n) same (subst (λ (z : CoreData). LooksAs d z) at looks)

cause_there : (d v : CoreData) (batch : List Edit) (f : List Edit × EditFault) → d ≡ v → IsCore d → (f.1.cause ≢ NoMemory → edited_all d.scenario batch ≡ Err f.1) →
    f.1.cause ≢ NoMemory → edited_all (scenario_now v.log) batch ≡ Err f.1
cause_there d v batch f same is cause =
    subst (λ (z : CoreData). f.1.cause ≢ NoMemory → edited_all (scenario_now z.log) batch ≡ Err f.1) same
    (subst (λ (z : ScenarioData). f.1.cause ≢ NoMemory → edited_all z batch ≡ Err f.1) (sym is.scenario) cause)

-- the core with the batch, and the batch in its history
abbrev pub told_accept : CoreData → List Edit → ScenarioData → Table → Loading → CoreData
told_accept d batch next t l = record d { log = with_batch d.log batch; scenario = next; table = t; shown = l; history = Accept ∷ d.history }

-- the core d is that before, where room was made for it first
accepts_batch : RepairLaws → (d : CoreData) (batch : List Edit) (next : ScenarioData) (u t : Table) (l : Loading) → IsCore d → TableSeenAs d.table u → SeenAs d.shown l →
    TakesBatch d.scenario next u t batch → version_now d.log + 1 < 2 ^ 63 → (setting_of next).slots ≤ loading_room l → AcceptsBatch d batch (told_accept d batch next t l)
accepts_batch laws d batch next u t l is table shown takes few room =
    let m : CoreData = with_room d u l in
    let h : List CoreEvent = Accept ∷ d.history in
    let ready : IsCore m = core_looks d u l is table shown in
    let taken : Taken m batch next t = taken_of m batch next t ready takes in
    record {
      edited = subst (λ (z : ScenarioData). edited_all z batch ≡ Ok (scenario_now (with_batch d.log batch))) (sym is.scenario)
          (subst (λ (z : ScenarioData). edited_all d.scenario batch ≡ Ok z) (sym taken.after) takes.edited);
      keeps = ap (λ (z : ScenarioData). told_accept d batch z t l) (sym taken.after);
      shown = shown.same;
      accepted = subst (λ (z : RepairState). Accepted (repair_of d) (touches d.scenario batch) z) (sym (repair_told (after_accept m batch next t) h))
          (subst (λ (z : RepairState). Accepted z (touches d.scenario batch) (repair_of (after_accept m batch next t))) (repair_same d u l is.ready.fits table shown)
          (core_accepted m batch next t ready takes));
      none_out = none_after laws m batch next t h ready takes few room;
    }

-- ---- the batch was taken in
-- the core with the batch in its log, with more room and another history
abbrev pub told_batch : CoreData → Log → ScenarioData → Table → Loading → List CoreEvent → CoreData
told_batch d log next t l h = record d { log = log; scenario = next; table = t; shown = l; history = h }

pub core_taken : RepairLaws → (d : CoreData) (batch : List Edit) (next : ScenarioData) (u t : Table) (l : Loading) (log : Log) (h : List CoreEvent) → IsCore d → TableSeenAs d.table u → SeenAs d.shown l →
    TakesBatch d.scenario next u t batch → (setting_of next).slots ≤ loading_room l → version_now d.log + 1 < 2 ^ 63 → log ≡ with_batch d.log batch → IsCore (told_batch d log next t l h)
core_taken laws d batch next u t l log h is table shown takes room few put =
    subst (λ (z : Log). IsCore (told_batch d z next t l h)) (sym put)
    (core_told (after_accept (with_room d u l) batch next t) h (core_after_accept laws (with_room d u l) batch next t (core_looks d u l is table shown) takes few room))

pub came_taken : (d : CoreData) (batch : List Edit) (next : ScenarioData) (u t : Table) (l : Loading) (log : Log) (h : List CoreEvent) → IsCore d → TableSeenAs d.table u → SeenAs d.shown l →
    TakesBatch d.scenario next u t batch → log ≡ with_batch d.log batch → h ≡ Accept ∷ d.history → CameBy d → CameBy (told_batch d log next t l h)
came_taken d batch next u t l log h is table shown takes put more came =
    let m : CoreData = with_room d u l in
    subst (λ (z : Log). CameBy (told_batch d z next t l h)) (sym put)
    (came_more m (after_accept m batch next t) Accept h (batch, refl) more (touches d.scenario batch, core_accepted m batch next t (core_looks d u l is table shown) takes) (came_looks d u l is table shown came))

pub tells_taken : RepairLaws → (d v : CoreData) (batch : List Edit) (next : ScenarioData) (u t : Table) (l : Loading) (log : Log) (h : List CoreEvent) → d ≡ v → IsCore d → TableSeenAs d.table u → SeenAs d.shown l →
    TakesBatch d.scenario next u t batch → (setting_of next).slots ≤ loading_room l → version_now d.log + 1 < 2 ^ 63 → log ≡ with_batch d.log batch → h ≡ Accept ∷ d.history → AcceptsBatch v batch (told_batch d log next t l h)
tells_taken laws d v batch next u t l log h same is table shown takes room few put more =
    subst (λ (z : Log). AcceptsBatch v batch (told_batch d z next t l h)) (sym put)
    (subst (λ (z : List CoreEvent). AcceptsBatch v batch (told_batch d (with_batch d.log batch) next t l z)) (sym more)
    (subst (λ (z : CoreData). AcceptsBatch z batch (told_accept d batch next t l)) same (accepts_batch laws d batch next u t l is table shown takes few room)))

-- ---- room was made, and the batch refused or no memory found
-- the core with more room, whose log, scenario and table are otherwise as before
abbrev pub put_back : CoreData → Log → ScenarioData → Table → Loading → CoreData
put_back d log next t l = record d { log = log; scenario = next; table = t; shown = l }

back_is : (d : CoreData) (log : Log) (next : ScenarioData) (u t : Table) (l : Loading) → log ≡ d.log → (next ≡ d.scenario) × (t ≡ u) → with_room d u l ≡ put_back d log next t l
back_is d log next u t l e (p, q) = λ i. put_back d (sym e i) (sym p i) (sym q i) l

pub core_back : (d : CoreData) (log : Log) (next : ScenarioData) (u t : Table) (l : Loading) → IsCore d → TableSeenAs d.table u → SeenAs d.shown l → log ≡ d.log → (next ≡ d.scenario) × (t ≡ u) → IsCore (put_back d log next t l)
core_back d log next u t l is table shown e same = subst IsCore (back_is d log next u t l e same) (core_looks d u l is table shown)

pub came_back : (d : CoreData) (log : Log) (next : ScenarioData) (u t : Table) (l : Loading) → IsCore d → TableSeenAs d.table u → SeenAs d.shown l → log ≡ d.log → (next ≡ d.scenario) × (t ≡ u) → CameBy d → CameBy (put_back d log next t l)
came_back d log next u t l is table shown e same came = subst CameBy (back_is d log next u t l e same) (came_looks d u l is table shown came)

pub tells_back : (d v : CoreData) (batch : List Edit) (f : EditFault) (log : Log) (next : ScenarioData) (u t : Table) (l : Loading) → d ≡ v → IsCore d → TableSeenAs d.table u → SeenAs d.shown l → log ≡ d.log →
    (next ≡ d.scenario) × (t ≡ u) → (f.cause ≢ NoMemory → edited_all d.scenario batch ≡ Err f) → TellsAccept v batch (Err (batch, f)) (put_back d log next t l)
tells_back d v batch f log next u t l at is table shown e same cause =
    (refl, looks_there d v (with_room d u l) _ at (back_is d log next u t l e same) (looks_as d u l is table shown), cause_there d v batch (batch, f) at is cause)

-- ---- a batch that is refused before any room is made
pub came_put_back : (d : CoreData) (next : ScenarioData) → next ≡ d.scenario → CameBy d → CameBy (record d { scenario = next })
came_put_back d next same came = subst (λ (z : ScenarioData). CameBy (record d { scenario = z })) (sym same) came

pub core_stays : (d : CoreData) (next : ScenarioData) → IsCore d → next ≡ d.scenario → IsCore (record d { scenario = next })
core_stays d next is same = subst (λ (z : ScenarioData). IsCore (record d { scenario = z })) (sym same) is

-- where a scenario that was refused a batch is put back the core is the one that it was
pub core_same : (d v : CoreData) (next : ScenarioData) → d ≡ v → next ≡ d.scenario → record d { scenario = next } ≡ v
core_same d v next same back = ap (λ (z : ScenarioData). record d { scenario = z }) back ∙ same

looks_same : (d : CoreData) → LooksAs d d
looks_same d = record { log = refl; scenario = refl; commits = refl; stopped = refl; history = refl; shown = record { version = refl; step = refl; links = refl; nodes = refl; shape = record { same_groups = refl; same_slots = refl }; totals = refl; free = λ i. refl; produced = λ n k x y. refl; generated = λ k x. refl }; desk = refl; repair = refl }

pub refused_tells : (d v : CoreData) (next : ScenarioData) (batch : List Edit) (e : List Edit × EditFault) → d ≡ v → IsCore d → next ≡ d.scenario → e.0 ≡ batch → (e.1.cause ≢ NoMemory → edited_all d.scenario batch ≡ Err e.1) →
    TellsAccept v batch (Err e) (record d { scenario = next })
refused_tells d v next batch e same is back at fault =
    subst (λ (z : CoreData). TellsAccept v batch (Err e) z) (sym (core_same d v next same back))
    (subst (λ (z : CoreData). TellsAccept z batch (Err e) z) same (at, looks_same d, λ apart. ap (λ (z : ScenarioData). edited_all z batch) is.scenario ∙ fault apart))

pub reach_there : (d v : CoreData) (batch : List Edit) (slots : ℕ) → d ≡ v → slots ≡ horizon_after d.scenario.setup.slots batch → MayReach d.scenario slots → MayReach v.scenario (horizon_after v.scenario.setup.slots batch)
reach_there d v batch slots same asked may =
    subst (λ (z : CoreData). MayReach z.scenario (horizon_after z.scenario.setup.slots batch)) same (subst (λ (n : ℕ). MayReach d.scenario n) asked may)

-- ---- how scenario and table take a batch in
pub have_slots : (s : ScenarioData) → IsScenario s → HaveSlots s
have_slots s is = record { entry = is.entry; exit = is.exit }

pub batch_network : BatchTouchesReaders → (s next : ScenarioData) (batch : List Edit) → IsScenario s → edited_all s batch ≡ Ok next → SameNetwork (setting_of s) (setting_of next)
batch_network law s next batch is edited = (law 1 s next batch (have_slots s is) edited).0.network

pub takes_batch : BatchTouchesReaders → (s next : ScenarioData) (batch edits : List Edit) (old new : Table) → IsScenario s → IsScenario next → IsValid next → SameShape s next → IsSetting (setting_of next) →
    (setting_of next).slots ≡ horizon_after s.setup.slots batch → edited_all s batch ≡ Ok next → edits ≡ batch → IsReady (setting_of s) old → ((before : ScenarioData) → LeadsTo before next edits → IsReady (setting_of before) old → TakesIn before next edits old new) → HaveAmounts batch →
    TakesBatch s next old new batch
takes_batch law s next batch edits old new scenario scenario' valid shape setting slots edited same ready taken amounts =
    let leads : LeadsTo s next batch = record { shape = shape; reads = (law 1 s next batch (have_slots s scenario) edited).1 } in
    record {
      edited = edited;
      scenario = scenario';
      valid = valid;
      amounts = amounts;
      alike = record { slots = shape.slots; network = shape.network; destinations = shape.destinations };
      setting = setting;
      slots = slots;
      network = batch_network law s next batch scenario edited;
      table = subst (λ (es : List Edit). TakesIn s next es old new) same (taken s (subst (λ (es : List Edit). LeadsTo s next es) (sym same) leads) ready);
    }
