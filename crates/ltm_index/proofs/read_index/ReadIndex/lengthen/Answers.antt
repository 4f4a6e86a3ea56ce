use Rattle.std.proofs.Common.{refl}
use Rattle.ltm_index.proofs.Indexed.{same_lists, empty_from}
use Rattle.ltm_index.proofs.read_index.ReadIndex.lengthen.Goals as goal

pub returns-clause-same : goal.returns-clause-same
returns-clause-same c = same_lists _ _ refl

pub returns-clause-new : goal.returns-clause-new
returns-clause-new c = empty_from c.args.self.now _ refl
