use Rattle.std.proofs.Common.{◌≡◌}
use Rattle.ltm_index.specs.Lists.{links_listed, slots_listed}
use Rattle.test_repair.proofs.reads.first_otherwise.Given as goal

abbrev pub invariant-loop-place : goal.invariant-loop-place
invariant-loop-place l = (links_listed l.index ≡ 2) × (slots_listed l.index ≡ 3)
