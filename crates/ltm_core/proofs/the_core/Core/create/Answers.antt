use Rattle.ltm_core.proofs.Beginnings.{first_kept, core_begins, core_begins_at, core_begun_at, core_came_at}
use Rattle.ltm_core.proofs.the_core.Core.create.Goals as goal

pub invariant_of-result : goal.invariant_of-result
invariant_of-result c = (
  core_begins_at c.args.scenario _ c.in-Ok.begun.table c.in-Ok.begun.shown
      (first_kept c.args.scenario _ _ c.in-Ok.ensures.opening c.begin-in-Ok.ensures)
      (core_begins c.repair_laws.ensures c.one_loading.ensures c.args.scenario c.in-Ok.begun.table c.in-Ok.begun.shown c.setup-setup.ensures.scenario c.requires c.is_setting.ensures.setting c.in-Ok.ensures.table c.in-Ok.ensures.shown c.in-Ok.ensures.room),
  core_came_at c.args.scenario _ c.in-Ok.begun.table c.in-Ok.begun.shown
      (first_kept c.args.scenario _ _ c.in-Ok.ensures.opening c.begin-in-Ok.ensures)
      (core_begins c.repair_laws.ensures c.one_loading.ensures c.args.scenario c.in-Ok.begun.table c.in-Ok.begun.shown c.setup-setup.ensures.scenario c.requires c.is_setting.ensures.setting c.in-Ok.ensures.table c.in-Ok.ensures.shown c.in-Ok.ensures.room)
      c.in-Ok.ensures.table c.in-Ok.ensures.shown,
)

pub returns-in-Ok-clause-ok : goal.returns-in-Ok-clause-ok
returns-in-Ok-clause-ok c =
    core_begun_at c.args.scenario _ c.in-Ok.begun.table c.in-Ok.begun.shown
    (first_kept c.args.scenario _ _ c.in-Ok.ensures.opening c.begin-in-Ok.ensures)
    c.in-Ok.ensures.table c.in-Ok.ensures.shown
