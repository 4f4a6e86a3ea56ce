use Rattle.std.proofs.Common.{refl, ◌*◌}
use Rattle.ltm_marks.specs.Marks.{is_marked}
use Rattle.ltm_marks.proofs.Bits.{none_from_word, later_word}
use Rattle.ltm_marks.proofs.marks.Marks.lengthen.Goals as goal

pub returns-clause-marks : goal.returns-clause-marks
unfolding is_marked
returns-clause-marks c = λ place row. refl

pub returns-clause-new : goal.returns-clause-new
returns-clause-new c = λ place row x l. none_from_word _ (c.args.self.now.rows * c.args.self.now.words) place row c.args.self.now.rest (later_word c.args.self.now.words c.args.self.now.rows place row l)
