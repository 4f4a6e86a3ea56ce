use Rattle.ltm_editors.proofs.Legal.{office_begins}
use Rattle.ltm_editors.proofs.office.Office.create.Goals as goal

pub invariant_of-result : goal.invariant_of-result
invariant_of-result c = office_begins c.args.core c.new.result.items c.new.ensures.items c.requires.fresh c.requires.none_out
