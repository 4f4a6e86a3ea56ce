use Rattle.ltm_used.proofs.AtNodes.{FindsFirst}
use Rattle.ltm_used.proofs.nodes.find_list.Given as goal

abbrev pub invariant-loop-k : goal.invariant-loop-k
invariant-loop-k l = FindsFirst l.initial.found l.found l.list l.k
