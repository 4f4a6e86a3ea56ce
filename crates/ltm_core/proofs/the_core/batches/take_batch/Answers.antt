use Rattle.std.proofs.Common.{◌≡◌, ℕ, subst, sym, ◌∙◌}
use Rattle.ltm_scenario.specs.Edits.{horizon_after}
use Rattle.ltm_setting.specs.Setting.{setting_of}
use Rattle.ltm_working.specs.Growing.{TableHasRoom}
use Rattle.ltm_working.proofs.Batching.{horizon_is}
use Rattle.ltm_core.proofs.Batches.{takes_batch}
use Rattle.ltm_core.proofs.the_core.batches.take_batch.Goals as goal

pub take_in-requires-clause-fits : goal.take_in-requires-clause-fits
take_in-requires-clause-fits c = (c.tables_fit.ensures c.args.scenario.now c.accept.new.self c.args.table.now c.accept.ensures.shape c.requires.ready.fits).fits

pub take_in-requires-clause-longer : goal.take_in-requires-clause-longer
take_in-requires-clause-longer c = (c.tables_fit.ensures c.args.scenario.now c.accept.new.self c.args.table.now c.accept.ensures.shape c.requires.ready.fits).longer

pub take_in-requires-clause-room : goal.take_in-requires-clause-room
take_in-requires-clause-room c =
    let slots : (setting_of c.accept.new.self).slots ≡ horizon_after c.args.scenario.now.setup.slots c.args.batch.now = horizon_is c.accept.new.self ∙ c.in-Ok.ensures.horizon in
    subst (λ (n : ℕ). TableHasRoom c.args.table.now n) (sym slots) c.requires.room

pub returns-in-Ok-clause-ok : goal.returns-in-Ok-clause-ok
returns-in-Ok-clause-ok c =
    takes_batch c.batch_touches_readers.ensures c.args.scenario.now c.accept.new.self c.args.batch.now c.edits.result.now c.args.table.now c.take_in.new.self c.setup-before.ensures.scenario c.setup-after.ensures.scenario
    c.accept.ensures.valid c.accept.ensures.shape c.is_setting.ensures.setting (horizon_is c.accept.new.self ∙ c.in-Ok.ensures.horizon) c.in-Ok.ensures.ok c.edits.ensures.edits c.requires.ready c.take_in.ensures c.requires.amounts
