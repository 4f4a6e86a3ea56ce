use Rattle.std.proofs.Common.{take}
use Rattle.ltm_frontier.specs.Frontier.{Activates}
use Rattle.ltm_working.specs.Batches.{in_reaches, UnweighsAll}
use Rattle.ltm_working.proofs.batches.mark_reaches.Given as goal

abbrev pub invariant-loop-reach : goal.invariant-loop-reach
invariant-loop-reach l = record {
  marks : Activates l.fn.frontier l.frontier (in_reaches (take l.reach-index l.reaches));
  weights : UnweighsAll l.fn.kept l.kept (in_reaches (take l.reach-index l.reaches));
}
