use Rattle.ltm_working.proofs.table.Table.recompute.Goals as goal

pub set_found-requires-clause-found : goal.set_found-requires-clause-found
set_found-requires-clause-found c = c.in-Work.ensures.finds.1

pub returns-in-Work-clause-recomputes : goal.returns-in-Work-clause-recomputes
returns-in-Work-clause-recomputes c = (_, c.set_found.ensures.sets c.args.self.now c.in-Work.ensures.finds.0 c.find.ensures.changed)
