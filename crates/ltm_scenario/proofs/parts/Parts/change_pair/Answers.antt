use Rattle.ltm_scenario.proofs.Pairs.{with_pair_parts}
use Rattle.ltm_scenario.proofs.parts.Parts.change_pair.Goals as goal

pub returns-in-Ok-clause-parts : goal.returns-in-Ok-clause-parts
returns-in-Ok-clause-parts c =
    with_pair_parts c.args.self.now c.exchange.new.self c.args.node.0 c.args.destination c.args.rows c.requires.parts c.requires.rows c.in-Ok.ensures.ok c.exchange.ensures.have_weights
