use Rattle.std.proofs.Common.{arith, ◌∙◌}
use Rattle.ltm_curve.proofs.Cells.{in_cells}
use Rattle.ltm_curve.proofs.changed.Changed.word.Goals as goal

pub returns : goal.returns
returns c = λ g x e. in_cells c.args.self.now g c.args.boundary x (omega (arith, c.requires.boundary, c.args.self.now.some_boundary)) ∙ c.word_with.ensures g e
