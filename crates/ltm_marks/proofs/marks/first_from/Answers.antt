use Rattle.ltm_marks.proofs.Bits.{none_from, first_is}
use Rattle.ltm_marks.proofs.marks.first_from.Goals as goal

pub returns-then-rest-eq0 : goal.returns-then-rest-eq0
returns-then-rest-eq0 c = none_from c.args.word c.args.from c.if-rest-eq0.true

pub returns : goal.returns
returns c = first_is c.args.word c.args.from c.ranges.word.fits c.if-rest-eq0.false
