use Rattle.std.proofs.Common.{arith}
use Rattle.ltm_io.specs.Source.{prepended}
use Rattle.ltm_io.proofs.Steps.{last_text}
use Rattle.ltm_io.proofs.lines.Lines.read_line.Goals as goal

pub returns-else-is_empty-clause-answer : goal.returns-else-is_empty-clause-answer
returns-else-is_empty-clause-answer g c = λ _.
    let l = c.loop in
    last_text _ _ (prepended l.self.ahead (g.S.Source.left l.source)) _ l.self.line.items (grind arith) (omega arith) l.invariant.6 (rw c.in-Ok-None.field-0-is at c.in-Ok-None.ensures.took)
