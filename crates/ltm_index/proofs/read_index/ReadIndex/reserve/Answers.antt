use Rattle.ltm_index.proofs.Indexed.{lists_of_index, chained_kept, entered_kept, up_to_kept, same_by_cells}
use Rattle.ltm_index.proofs.read_index.ReadIndex.reserve.Goals as goal

pub invariant_of-self-clause-chained : goal.invariant_of-self-clause-chained
invariant_of-self-clause-chained c = chained_kept _ _ c.reserve.ensures.cells c.reserve.ensures.no_less (lists_of_index c.args.self.now)

pub invariant_of-self-clause-entered : goal.invariant_of-self-clause-entered
invariant_of-self-clause-entered c = entered_kept _ _ c.reserve.ensures.cells c.reserve.ensures.no_less (lists_of_index c.args.self.now)

pub invariant_of-self-clause-up_to : goal.invariant_of-self-clause-up_to
invariant_of-self-clause-up_to c = up_to_kept _ _ _ c.reserve.ensures.cells c.args.self.now.up_to

pub returns-clause-same : goal.returns-clause-same
returns-clause-same c = same_by_cells _ _ c.reserve.ensures.cells c.reserve.ensures.no_less
