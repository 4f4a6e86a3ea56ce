use Rattle.std.proofs.Common.{◌≡◌, ◌<◌, ◌≤◌, ◌+◌, List, ℕ, length}
use Rattle.ltm_io.specs.Source.{prepended}
use Rattle.ltm_check.proofs.file.count_rest.Given as goal

abbrev pub invariant-loop : goal.invariant-loop
invariant-loop g l = record {
  room : 0 < length l.piece;
  within : l.taken ≤ l.most;
  steps : l.counter ≤ l.taken;
  got : (got : List ℕ) × (l.fn.taken + length got ≡ l.taken) × (g.S.Source.left l.fn.source ≡ prepended got (g.S.Source.left l.source));
  later : g.S.Source.faults l.fn.source ≤ g.S.Source.faults l.source;
}
