use Rattle.std.proofs.Common.{◌≡◌, ◌≤◌, [], length}
use Rattle.ltm_io.specs.Script.{whole_lines}
use Rattle.ltm_io.specs.Source.{prepended}
use Rattle.ltm_io.proofs.Steps.{Progresses}
use Rattle.ltm_io.proofs.lines.Lines.read_line.Given as goal

abbrev pub invariant-loop : goal.invariant-loop
invariant-loop g l = (l.self.kept ≡ l.initial.self.kept) × (l.self.max ≡ l.initial.self.max)
    × (length l.self.line.items ≡ l.counter) × (l.counter ≤ l.self.max)
    × (g.S.Source.faults l.initial.source ≤ g.S.Source.faults l.source)
    × (whole_lines l.self.line.items ≡ [])
    × Progresses (prepended l.initial.self.ahead (g.S.Source.left l.initial.source)) l.self.line.items (prepended l.self.ahead (g.S.Source.left l.source))
