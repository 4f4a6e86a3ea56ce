use Rattle.ltm_scenario.proofs.Changed.{with_split_row}
use Rattle.ltm_scenario.proofs.Undoing.{split_undoes}
use Rattle.ltm_scenario.proofs.parts.Parts.change_split.Goals as goal

pub returns-in-Ok-set-clause-undo : goal.returns-in-Ok-set-clause-undo
returns-in-Ok-set-clause-undo c =
    split_undoes c.args.self.now c.set.new.self c.args.key c.args.weights.now c.in-Ok.undo c.requires.parts c.in-Ok.ensures c.in-Ok-set.ensures.back c.in-Ok-set.ensures.stands

pub returns-in-Ok-set-clause-parts : goal.returns-in-Ok-set-clause-parts
returns-in-Ok-set-clause-parts c =
    with_split_row c.args.self.now c.set.new.self c.args.key c.args.weights.now c.requires.parts c.requires.row c.in-Ok-set.ensures.ok c.set.ensures.have_weights
