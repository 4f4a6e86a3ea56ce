use Rattle.std.proofs.Common.{◌≡◌, ℕ, List, sym, subst, arith}
use Rattle.ltm_scenario.specs.declared.edit.Edit.{Edit}
use Rattle.ltm_scenario.specs.Data.{ScenarioData}
use Rattle.ltm_core.specs.Setting.{setting_of}
use Rattle.ltm_pairs.specs.Touched.{HaveSlots}
use Rattle.ltm_working.specs.Ready.{IsReady}
use Rattle.ltm_working.specs.Growing.{horizon_of, TableHasRoom}
use Rattle.ltm_working.specs.Batches.{LeadsTo}
use Rattle.ltm_working.proofs.Batching.{horizon_is}
use Rattle.test_repair.proofs.closure.take_in.Goals as goal

pub take_in-requires-clause-fits : goal.take_in-requires-clause-fits
take_in-requires-clause-fits c = (c.tables_fit.ensures c.args.scenario.now c.accept.new.self c.args.table.now c.in-Ok.ensures.shape c.requires.ready.fits).fits

pub take_in-requires-clause-longer : goal.take_in-requires-clause-longer
take_in-requires-clause-longer c = (c.tables_fit.ensures c.args.scenario.now c.accept.new.self c.args.table.now c.in-Ok.ensures.shape c.requires.ready.fits).longer

pub take_in-requires-clause-room : goal.take_in-requires-clause-room
take_in-requires-clause-room c =
    let same : horizon_of c.args.table.now ≡ (setting_of c.accept.new.self).slots =
    omega (arith, c.requires.ready.fits.curves.same_slots, horizon_is c.args.scenario.now, horizon_is c.accept.new.self, c.in-Ok.ensures.horizon, c.requires.horizon) in
    subst (λ (n : ℕ). TableHasRoom c.args.table.now n) same (c.tables_fit.ensures c.args.scenario.now c.accept.new.self c.args.table.now c.in-Ok.ensures.shape c.requires.ready.fits).room

pub returns-in-Ok : goal.returns-in-Ok
returns-in-Ok c =
    let slots : HaveSlots c.args.scenario.now = record { entry = c.setup-setup.ensures.scenario.entry; exit = c.setup-setup.ensures.scenario.exit } in
    let leads : LeadsTo c.args.scenario.now c.accept.new.self c.args.batch.now = record {
      shape = c.in-Ok.ensures.shape;
      reads = (c.batch_touches_readers.ensures 1 c.args.scenario.now c.accept.new.self c.args.batch.now slots c.in-Ok.ensures.ok).1;
    } in
    (c.take_in.ensures c.args.scenario.now (subst (λ (e : List Edit). LeadsTo c.args.scenario.now c.accept.new.self e) (sym c.edits.ensures.edits) leads) c.requires.ready).ready

pub returns-in-Err : goal.returns-in-Err
returns-in-Err c = subst (λ (z : ScenarioData). IsReady (setting_of z) c.args.table.now) (sym c.in-Err.ensures.err) c.requires.ready
