use Rattle.std.proofs.Common.{◌∙◌, arith}
use Rattle.ltm_demand.proofs.Edits.{remove_is, set_is, amount_read}
use Rattle.ltm_demand.proofs.rows.put_over.Goals as goal

pub returns-then-row-eq0-clause-rows : goal.returns-then-row-eq0-clause-rows
returns-then-row-eq0-clause-rows c = c.remove.ensures.items ∙ remove_is c.args.rows.now.items c.args.row.now c.args.place c.requires c.if-row-eq0.true

pub returns-then-row-eq0-clause-was : goal.returns-then-row-eq0-clause-was
returns-then-row-eq0-clause-was c = amount_read c.args.rows.now.items c.args.row.now c.args.place c.index.result.now c.requires c.index.ensures

pub returns-clause-rows : goal.returns-clause-rows
returns-clause-rows c = set_is c.args.rows.now.items c.args.row.now c.args.place c.requires (omega arith)

pub returns-clause-was : goal.returns-clause-was
returns-clause-was c = amount_read c.args.rows.now.items c.args.row.now c.args.place c.index.result.now c.requires c.index.ensures
