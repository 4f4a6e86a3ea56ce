use Rattle.std.proofs.Common.{ℕ, ◌∙◌, arith, length, ap, sym, subst, refl}
use Rattle.ltm_curve.specs.Counts.{Counts}
use Rattle.ltm_loading.specs.Loading.{IsLoading}
use Rattle.ltm_setting.specs.Setting.{setting_of}
use Rattle.ltm_working.specs.Desks.{desk_at}
use Rattle.ltm_flows.specs.Shown.{ShowsCounts}
use Rattle.ltm_core.specs.Log.{version_now}
use Rattle.ltm_core.proofs.Logs.{length_batches}
use Rattle.ltm_core.proofs.Cores.{rest_here, not_resting_at}
use Rattle.ltm_core.proofs.Showings.{shown_low, ShowsTable, core_fits, core_agrees, core_after_publish, came_publish, core_publishes_at}
use Rattle.ltm_core.proofs.Histories.{core_told}
use Rattle.ltm_core.proofs.Renewing.{fits_same, agrees_same}
use Rattle.ltm_core.proofs.Production.{nodes_are, shown_production}
use Rattle.ltm_core.proofs.the_core.Core.publish.Goals as goal

pub is_at_rest-requires : goal.is_at_rest-requires
is_at_rest-requires c = c.self.invariant.0.ready

pub returns-then-not-is_at_rest-clause-answer : goal.returns-then-not-is_at_rest-clause-answer
returns-then-not-is_at_rest-clause-answer c = (not_resting_at _ _ c.is_at_rest.result c.self.view_is c.self.invariant.0 c.is_at_rest.ensures c.if-not-is_at_rest.true, refl)

pub refresh-requires-clause-fits : goal.refresh-requires-clause-fits
refresh-requires-clause-fits c = fits_same (setting_of c.self.inside.scenario) c.self.inside.shown c.renew_since.new.shown c.renew_since.ensures.same (core_fits _ c.self.invariant.0)

pub refresh-requires-clause-loading : goal.refresh-requires-clause-loading
refresh-requires-clause-loading c =
    subst (λ (z : Counts). IsLoading (setting_of c.self.inside.scenario) z) (c.curves.ensures.counts (setting_of c.self.inside.scenario))
    (rest_here c.repair_laws.ensures.rest _ c.self.invariant.0 (c.is_at_rest.ensures.0 c.if-not-is_at_rest.false))

pub refresh-requires-clause-outside : goal.refresh-requires-clause-outside
refresh-requires-clause-outside c =
    agrees_same c.curves.result.now c.cells.result.now c.self.inside.shown c.renew_since.new.shown c.renew_since.ensures.same
    (core_agrees _ c.curves.result.now c.cells.result.now c.self.invariant.0 (c.curves.ensures.shape (setting_of c.self.inside.scenario) c.self.invariant.0.ready) (c.curves.ensures.counts (setting_of c.self.inside.scenario))
    (λ g k x l. c.cells.ensures.changed (setting_of c.self.inside.scenario) g k x l))

pub renew_since-requires-clause-nodes : goal.renew_since-requires-clause-nodes
renew_since-requires-clause-nodes c = (core_fits _ c.self.invariant.0).nodes ∙ nodes_are c.self.inside.scenario

pub renew_since-requires-clause-from : goal.renew_since-requires-clause-from
renew_since-requires-clause-from c =
    omega (
      c.version-shown_at.ensures,
      ap length c.batches.ensures,
      shown_low _ c.self.invariant.0,
      length_batches c.self.inside.log.log,
      arith,
    )

pub refresh-requires-clause-produced : goal.refresh-requires-clause-produced
refresh-requires-clause-produced c =
    shown_production c.production_stays.ensures c.edits_make.ensures _ c.batches.result.now c.version-shown_at.result c.renew_since.new.shown c.self.invariant.0 c.batches.ensures c.version-shown_at.ensures c.renew_since.ensures

shown_table : (c : goal.After-add) → ShowsTable (setting_of c.self.inside.scenario) (version_now c.self.inside.log.log) c.self.inside.table c.clear_changed.new.self c.refresh.new.self
shown_table c =
    let s = setting_of c.self.inside.scenario in
    let P : ℕ → Type 0 = λ n. ShowsCounts s n (desk_at s c.self.inside.table).counts c.refresh.new.self in
    let Q : Counts → Type 0 = λ f. ShowsCounts s c.version-accepted.result f c.refresh.new.self in
    record {
      desk = c.clear_changed.ensures.desk (setting_of c.self.inside.scenario);
      ready = c.clear_changed.ensures.ready (setting_of c.self.inside.scenario) c.self.invariant.0.ready;
      cleared = λ g k. c.clear_changed.ensures.none (setting_of c.self.inside.scenario) g k;
      shows = subst P c.version-accepted.ensures.version (subst Q (sym (c.curves.ensures.counts s)) c.refresh.ensures);
      room = omega (c.room-room.ensures.value, c.room-room.ensures.within, c.refresh.ensures.shape.same_slots, arith);
    }

pub invariant_of-self : goal.invariant_of-self
invariant_of-self c = (
  core_told _ _ (core_after_publish c.repair_laws.ensures _ c.clear_changed.new.self c.refresh.new.self c.self.invariant.0 (c.is_at_rest.ensures.0 c.if-not-is_at_rest.false) (shown_table c)),
  came_publish _ c.clear_changed.new.self c.refresh.new.self _ c.self.invariant.0 (c.is_at_rest.ensures.0 c.if-not-is_at_rest.false) (shown_table c) c.add.ensures c.self.invariant.1,
)

pub returns-clause-answer : goal.returns-clause-answer
returns-clause-answer c =
    core_publishes_at _ _ c.clear_changed.new.self c.refresh.new.self _ c.version-accepted.result c.self.view_is c.version-accepted.ensures.version c.self.invariant.0 (c.is_at_rest.ensures.0 c.if-not-is_at_rest.false) (shown_table c) c.add.ensures
