use Rattle.std.proofs.Common.{rules}
use Rattle.ltm_scenario.proofs.Beside.{timed_set}
use Rattle.ltm_scenario.proofs.diagrams.Diagrams.replace.Goals as goal

pub invariant_of-self : goal.invariant_of-self
invariant_of-self c =
    timed_set c.self.inside.pace.step.0 c.self.inside.pace.carry c.self.inside.diagrams.items c.self.inside.timed.items c.args.link c.args.diagram c.timed-timed.result c.self.invariant
    (search rules) (search rules)
