use Rattle.std.proofs.Common.{take}
use Rattle.ltm_frontier.specs.Frontier.{Activates}
use Rattle.ltm_pairs.specs.Touched.{is_touched}
use Rattle.ltm_working.specs.Batches.{UnweighsAll}
use Rattle.ltm_working.proofs.batches.mark_touched.Given as goal

abbrev pub invariant-loop-edit : goal.invariant-loop-edit
invariant-loop-edit l = record {
  marks : Activates l.fn.frontier l.frontier (is_touched l.scenario (take l.edit-index l.edits));
  weights : UnweighsAll l.fn.kept l.kept (is_touched l.scenario (take l.edit-index l.edits));
}
