use Rattle.std.proofs.Common.{◌∙◌}
use Rattle.ltm_splits.proofs.Sums.{all_zero}
use Rattle.ltm_splits.proofs.weights.are_zero.Goals as goal

pub returns : goal.returns
returns c = c.is_each_zero.ensures ∙ all_zero c.args.weights.now
