use Rattle.std.proofs.Common.{◌<◌, length, IfSome, Contains}
use Rattle.ltm_index.specs.Chains.{list_from}
use Rattle.ltm_index.specs.Lists.{list_of, slots_listed}
use Rattle.ltm_working.proofs.Listing.{Marked}
use Rattle.ltm_working.proofs.marking.mark_list.Given as goal

abbrev pub invariant-loop-at : goal.invariant-loop-at
invariant-loop-at l = record {
  stands : IfSome l.at (λ slot. Contains (list_of l.index l.link.0 l.boundary) slot);
  within : IfSome l.at (λ slot. slot < slots_listed l.index);
  marked : Marked l.fn.frontier l.frontier l.node.0 l.from (list_of l.index l.link.0 l.boundary) l.at;
}

abbrev pub decreases-loop-at : goal.decreases-loop-at
decreases-loop-at l = length (list_from (list_of l.index l.link.0 l.boundary) l.at)
