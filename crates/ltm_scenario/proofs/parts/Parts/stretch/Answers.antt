use Rattle.ltm_scenario.proofs.Horizons.{stretched_are_parts}
use Rattle.ltm_scenario.proofs.parts.Parts.stretch.Goals as goal

pub returns-clause-parts : goal.returns-clause-parts
returns-clause-parts c =
    (stretched_are_parts c.args.self.now c.args.slots c.lengthen.new.self c.lengthen-2.new.self c.lengthen-3.new.self c.lengthen-4.new.self c.requires.parts
    c.requires.longer c.requires.most
    c.lengthen.ensures c.lengthen-2.ensures c.lengthen-3.ensures.limits c.lengthen-3.ensures.slots c.lengthen-4.ensures.limits c.lengthen-4.ensures.slots).1
