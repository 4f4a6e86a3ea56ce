use Rattle.ltm_index.proofs.Indexed.{chained_empty, entered_empty, up_to_empty, is_empty}
use Rattle.ltm_index.proofs.read_index.ReadIndex.create.Goals as goal

pub invariant_of-result-clause-chained : goal.invariant_of-result-clause-chained
invariant_of-result-clause-chained c = chained_empty _ c.in_ok-cells.ensures.empty

pub invariant_of-result-clause-entered : goal.invariant_of-result-clause-entered
invariant_of-result-clause-entered c = entered_empty _ c.in_ok-cells.ensures.empty

pub invariant_of-result-clause-up_to : goal.invariant_of-result-clause-up_to
invariant_of-result-clause-up_to c = up_to_empty _ _ c.in_ok-cells.ensures.empty

pub returns-clause-empty : goal.returns-clause-empty
returns-clause-empty c = is_empty _ c.in_ok-cells.ensures.empty
