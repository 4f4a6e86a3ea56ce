use Rattle.std.proofs.Common.{◌∙◌}
use Rattle.ltm_demand.proofs.Edits.{insert_is}
use Rattle.ltm_demand.proofs.rows.put_in.Goals as goal

pub returns-clause-rows : goal.returns-clause-rows
returns-clause-rows c = c.in-Ok.ensures.items ∙ insert_is c.args.rows.now.items c.args.row.now c.args.place c.requires.gap c.requires.some
