use Rattle.std.proofs.Common.{◌<◌, arith, ◌∙◌}
use Rattle.ltm_marks.specs.Marks.{rows_of, IsNext}
use Rattle.ltm_curve.proofs.Cells.{in_cells}
use Rattle.ltm_curve.proofs.changed.Changed.next.Goals as goal

pub returns-in-Some : goal.returns-in-Some
returns-in-Some c =
    let is : IsNext c.args.self.now.marks c.args.boundary c.args.group c.in-Some.next = c.in-Some.ensures in
    let row : c.args.boundary < rows_of c.args.self.now.marks = omega (arith, c.requires, c.args.self.now.some_boundary) in
    record {
      least = is.least;
      inside = is.inside;
      changed = in_cells c.args.self.now c.in-Some.next c.args.boundary is.inside row ∙ is.marked;
      before = λ g l m. in_cells c.args.self.now g c.args.boundary (omega (arith, m, is.inside)) row ∙ is.before g l m;
    }

pub returns-in-None : goal.returns-in-None
returns-in-None c = λ g l x. in_cells c.args.self.now g c.args.boundary x (omega (arith, c.requires, c.args.self.now.some_boundary)) ∙ c.in-None.ensures g l x
