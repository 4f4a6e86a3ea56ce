use Rattle.std.proofs.Common.{◌≡◌, take}
use Rattle.ltm_board.specs.Panels.{batches_in}
use Rattle.ltm_board.proofs.same.begins_with.Given as goal

abbrev pub invariant-loop-i : goal.invariant-loop-i
invariant-loop-i l = batches_in (take l.i l.posts) ≡ batches_in (take l.i l.others)
