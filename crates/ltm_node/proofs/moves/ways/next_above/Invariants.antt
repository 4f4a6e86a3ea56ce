use Rattle.std.proofs.Common.{◌≡◌, ◌-◌, ◌≤◌, sum, drop, length}
use Rattle.ltm_node.proofs.moves.ways.next_above.Given as goal

abbrev pub invariant-outs : goal.invariant-outs
invariant-outs l = record {
  behind : l.fn.from ≤ l.out;
  rest : sum (drop l.out l.weights) ≡ sum (drop l.fn.from l.weights);
}

abbrev pub decreases-outs : goal.decreases-outs
decreases-outs l = length l.weights - l.out
