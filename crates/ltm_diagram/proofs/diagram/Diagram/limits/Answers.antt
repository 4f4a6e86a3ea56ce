use Rattle.std.proofs.Common.{rules}
use Rattle.ltm_diagram.specs.Limits.{limits_of}
use Rattle.ltm_diagram.proofs.Ranges.{in_range}
use Rattle.ltm_diagram.proofs.diagram.Diagram.limits.Goals as goal

pub returns-clause-in_range : goal.returns-clause-in_range
unfolding limits_of
returns-clause-in_range c = in_range c.args.self.now c.args.step.0 c.args.carry _ (search rules)
