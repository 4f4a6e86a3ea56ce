use Rattle.std.proofs.Common.{ap, sym, ◌∙◌}
use Rattle.std.specs.Prelude.{Some}
use Rattle.ltm_node.specs.Inputs.{Inputs}
use Rattle.test_repair.proofs.closure.repair_one.Goals as goal

pub commit-requires-clause-claimed : goal.commit-requires-clause-claimed
commit-requires-clause-claimed g c = (c.in-Work.ensures.answer 0).desk.2.holds ∙ ap (λ (n : Inputs). Some n.row) (sym c.solve-solved.ensures.inputs)
