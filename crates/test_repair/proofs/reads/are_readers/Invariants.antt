use Rattle.std.proofs.Common.{IfSome, Contains}
use Rattle.ltm_index.specs.Lists.{list_of}
use Rattle.test_repair.proofs.reads.are_readers.Given as goal

abbrev pub invariant-loop-want : goal.invariant-loop-want
invariant-loop-want l = IfSome l.at (λ slot. Contains (list_of l.index l.link.0 l.boundary) slot)
