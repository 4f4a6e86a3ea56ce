use Rattle.std.proofs.Common.{rules, sym}
use Rattle.ltm_diagram.proofs.Passing.{none_left, same_in, more_in}
use Rattle.ltm_diagram.proofs.diagram.Limits.capacity_at.Goals as goal

pub returns-then-self-eq0 : goal.returns-then-self-eq0
returns-then-self-eq0 c = sym (none_left c.args.self.now c.args.slot c.requires.rest (search rules))

pub returns-then-rest-from : goal.returns-then-rest-from
returns-then-rest-from c = sym (same_in c.args.self.now c.args.slot c.requires.rest (search rules))

pub returns-else-rest-from : goal.returns-else-rest-from
returns-else-rest-from c = sym (more_in c.args.self.now c.args.slot c.requires.rest (search rules))
