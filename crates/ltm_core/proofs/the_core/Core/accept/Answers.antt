use Rattle.std.proofs.Common.{◌≡◌, ◌≤◌, ◌+◌, ◌<◌, ◌^◌, ℕ, refl, ap, sym, subst, ◌∙◌, arith}
use Rattle.std.proofs.lemmas.Bool.{false≢true}
use Rattle.ltm_scenario.specs.Edits.{horizon_after}
use Rattle.ltm_setting.specs.Setting.{setting_of}
use Rattle.ltm_flows.specs.Shown.{SameLoading, loading_room}
use Rattle.ltm_working.specs.Growing.{TableHasRoom}
use Rattle.ltm_core.specs.Log.{Log, version_now, with_batch}
use Rattle.ltm_core.specs.Cores.{CoreData}
use Rattle.ltm_scenario.specs.Horizon.{MayReach}
use Rattle.ltm_core.proofs.Cores.{core_setting}
use Rattle.ltm_core.proofs.Looking.{SeenAs}
use Rattle.ltm_core.proofs.Batches.{core_taken, came_taken, tells_taken, core_back, came_back, tells_back, core_stays, came_put_back, core_same, refused_tells, reach_there}
use Rattle.ltm_core.proofs.the_core.Core.accept.Goals as goal
use Rattle.ltm_core.proofs.the_core.Core.accept.Goals.{After-add}

pub take_batch-requires-clause-ready : goal.take_batch-requires-clause-ready
take_batch-requires-clause-ready c = c.reserve_all.ensures.table.ready (setting_of c.self.inside.scenario) (core_setting _ c.self.invariant.0) c.self.invariant.0.ready

pub take_batch-requires-clause-room : goal.take_batch-requires-clause-room
take_batch-requires-clause-room c =
    let asked : c.horizon-slots.result ≡ horizon_after c.self.inside.scenario.setup.slots c.args.batch = rw c.setup.ensures.setup at c.horizon-slots.ensures in
    subst (λ (n : ℕ). TableHasRoom c.reserve_all.new.table n) asked c.in-Ok.ensures.table_room

-- ---- the horizon may not be reached
pub refuse-requires-clause-beyond : goal.refuse-requires-clause-beyond
refuse-requires-clause-beyond c =
    let asked : c.horizon-slots.result ≡ horizon_after c.self.inside.scenario.setup.slots c.args.batch = rw c.setup.ensures.setup at c.horizon-slots.ensures in
    λ may. absurd (false≢true (sym c.if-not-may_reach.true ∙ c.may_reach.ensures.1 (subst (λ (n : ℕ). MayReach c.self.inside.scenario n) (sym asked) may)))

pub invariant_of-self : goal.invariant_of-self
invariant_of-self c = (core_stays _ c.refuse.new.scenario c.self.invariant.0 c.refuse.ensures.same, came_put_back _ c.refuse.new.scenario c.refuse.ensures.same c.self.invariant.1)

pub returns-then-not-may_reach-clause-answer : goal.returns-then-not-may_reach-clause-answer
returns-then-not-may_reach-clause-answer c = refused_tells _ _ c.refuse.new.scenario c.args.batch c.refuse.result c.self.view_is c.self.invariant.0 c.refuse.ensures.same c.refuse.ensures.back c.refuse.ensures.cause

pub returns-then-not-may_reach-clause-beyond : goal.returns-then-not-may_reach-clause-beyond
returns-then-not-may_reach-clause-beyond c = λ no. core_same _ _ c.refuse.new.scenario c.self.view_is c.refuse.ensures.same

-- ---- no memory was found
no_memory_room : (c : goal.After-no_memory) → SeenAs c.self.inside.shown c.reserve_all.new.shown
no_memory_room c = record { same = c.reserve_all.ensures.shown; shows = c.reserve_all.ensures.shows; room = c.reserve_all.ensures.no_less }

pub invariant_of-self-in-Err : goal.invariant_of-self-in-Err
invariant_of-self-in-Err c = (
  core_back _ _ _ c.reserve_all.new.table c.reserve_all.new.table c.reserve_all.new.shown c.self.invariant.0 c.reserve_all.ensures.table (no_memory_room c) c.reserve_all.ensures.log (refl, refl),
  came_back _ _ _ c.reserve_all.new.table c.reserve_all.new.table c.reserve_all.new.shown c.self.invariant.0 c.reserve_all.ensures.table (no_memory_room c) c.reserve_all.ensures.log (refl, refl) c.self.invariant.1,
)

pub returns-in-Err-clause-answer : goal.returns-in-Err-clause-answer
returns-in-Err-clause-answer c =
    rw c.no_memory.ensures
    (tells_back _ _ c.args.batch _ _ _ c.reserve_all.new.table c.reserve_all.new.table c.reserve_all.new.shown c.self.view_is c.self.invariant.0 c.reserve_all.ensures.table (no_memory_room c) c.reserve_all.ensures.log (refl, refl)
    (λ other. absurd (other refl)))

pub returns-in-Err-clause-shown : goal.returns-in-Err-clause-shown
returns-in-Err-clause-shown c = subst (λ (z : CoreData). SameLoading z.shown c.reserve_all.new.shown) c.self.view_is c.reserve_all.ensures.shown

pub returns-in-Err-clause-beyond : goal.returns-in-Err-clause-beyond
returns-in-Err-clause-beyond c =
    let asked : c.horizon-slots.result ≡ horizon_after c.self.inside.scenario.setup.slots c.args.batch = rw c.setup.ensures.setup at c.horizon-slots.ensures in
    λ no. absurd (no (reach_there _ _ c.args.batch c.horizon-slots.result c.self.view_is asked (c.if-not-may_reach.ensures.0 refl)))

-- ---- the batch was refused
refused_room : (c : goal.In-Err-take_batch) → SeenAs c.self.inside.shown c.reserve_all.new.shown
refused_room c = record { same = c.reserve_all.ensures.shown; shows = c.reserve_all.ensures.shows; room = c.reserve_all.ensures.no_less }

pub invariant_of-self-in-Err-take_batch : goal.invariant_of-self-in-Err-take_batch
invariant_of-self-in-Err-take_batch c = (
  core_back _ _ _ c.reserve_all.new.table c.take_batch.new.table c.reserve_all.new.shown c.self.invariant.0 c.reserve_all.ensures.table (refused_room c) c.reserve_all.ensures.log c.in-Err-take_batch.ensures.same,
  came_back _ _ _ c.reserve_all.new.table c.take_batch.new.table c.reserve_all.new.shown c.self.invariant.0 c.reserve_all.ensures.table (refused_room c) c.reserve_all.ensures.log c.in-Err-take_batch.ensures.same c.self.invariant.1,
)

pub returns-in-Err-take_batch-clause-answer : goal.returns-in-Err-take_batch-clause-answer
returns-in-Err-take_batch-clause-answer c =
    tells_back _ _ c.args.batch c.in-Err-take_batch.fault _ _ c.reserve_all.new.table c.take_batch.new.table c.reserve_all.new.shown c.self.view_is c.self.invariant.0 c.reserve_all.ensures.table (refused_room c) c.reserve_all.ensures.log
    c.in-Err-take_batch.ensures.same c.in-Err-take_batch.ensures.cause

pub returns-in-Err-take_batch-clause-shown : goal.returns-in-Err-take_batch-clause-shown
returns-in-Err-take_batch-clause-shown c = subst (λ (z : CoreData). SameLoading z.shown c.reserve_all.new.shown) c.self.view_is c.reserve_all.ensures.shown

pub returns-in-Err-take_batch-clause-beyond : goal.returns-in-Err-take_batch-clause-beyond
returns-in-Err-take_batch-clause-beyond c =
    let asked : c.horizon-slots.result ≡ horizon_after c.self.inside.scenario.setup.slots c.args.batch = rw c.setup.ensures.setup at c.horizon-slots.ensures in
    λ no. absurd (no (reach_there _ _ c.args.batch c.horizon-slots.result c.self.view_is asked (c.if-not-may_reach.ensures.0 refl)))

-- ---- the batch was taken
taken_room : (c : After-add) → SeenAs c.self.inside.shown c.reserve_all.new.shown
taken_room c = record { same = c.reserve_all.ensures.shown; shows = c.reserve_all.ensures.shows; room = c.reserve_all.ensures.no_less }

enough : (c : After-add) → (setting_of c.take_batch.new.scenario).slots ≤ loading_room c.reserve_all.new.shown
enough c =
    let asked : c.horizon-slots.result ≡ horizon_after c.self.inside.scenario.setup.slots c.args.batch = rw c.setup.ensures.setup at c.horizon-slots.ensures in
    omega (c.in-Ok-take_batch.ensures.ok.slots, asked, c.in-Ok.ensures.shown_room, arith)

put : (c : After-add) → c.push.new.self.log ≡ with_batch c.self.inside.log.log c.args.batch
put c = c.push.ensures.log ∙ ap (λ (z : Log). with_batch z c.args.batch) c.reserve_all.ensures.log

few : (c : After-add) → version_now c.self.inside.log.log + 1 < 2 ^ 63
few c = subst (λ (z : Log). version_now z + 1 < 2 ^ 63) c.reserve_all.ensures.log c.push.ensures.few

pub invariant_of-self-in-Ok-take_batch : goal.invariant_of-self-in-Ok-take_batch
invariant_of-self-in-Ok-take_batch c = (
  core_taken c.repair_laws.ensures _ c.args.batch c.take_batch.new.scenario c.reserve_all.new.table c.take_batch.new.table c.reserve_all.new.shown _ _ c.self.invariant.0 c.reserve_all.ensures.table (taken_room c) c.in-Ok-take_batch.ensures.ok
      (enough c) (few c) (put c),
  came_taken _ c.args.batch c.take_batch.new.scenario c.reserve_all.new.table c.take_batch.new.table c.reserve_all.new.shown _ _ c.self.invariant.0 c.reserve_all.ensures.table (taken_room c) c.in-Ok-take_batch.ensures.ok
      (put c) c.add.ensures c.self.invariant.1,
)

pub returns-in-Ok-take_batch-clause-answer : goal.returns-in-Ok-take_batch-clause-answer
returns-in-Ok-take_batch-clause-answer c =
    tells_taken c.repair_laws.ensures _ _ c.args.batch c.take_batch.new.scenario c.reserve_all.new.table c.take_batch.new.table c.reserve_all.new.shown _ _ c.self.view_is c.self.invariant.0 c.reserve_all.ensures.table (taken_room c)
    c.in-Ok-take_batch.ensures.ok (enough c) (few c) (put c) c.add.ensures

pub returns-in-Ok-take_batch-clause-shown : goal.returns-in-Ok-take_batch-clause-shown
returns-in-Ok-take_batch-clause-shown c = subst (λ (z : CoreData). SameLoading z.shown c.reserve_all.new.shown) c.self.view_is c.reserve_all.ensures.shown

pub returns-in-Ok-take_batch-clause-beyond : goal.returns-in-Ok-take_batch-clause-beyond
returns-in-Ok-take_batch-clause-beyond c =
    let asked : c.horizon-slots.result ≡ horizon_after c.self.inside.scenario.setup.slots c.args.batch = rw c.setup.ensures.setup at c.horizon-slots.ensures in
    λ no. absurd (no (reach_there _ _ c.args.batch c.horizon-slots.result c.self.view_is asked (c.if-not-may_reach.ensures.0 refl)))
