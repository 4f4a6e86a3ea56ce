use Rattle.ltm_shares.specs.Demands.{demands_of}
use Rattle.ltm_node.specs.Moving.{AsksFirst}
use Rattle.ltm_node.proofs.node_step.share_out.Given as goal

abbrev pub invariant-loop-out : goal.invariant-loop-out
invariant-loop-out l = AsksFirst l.inputs l.out (demands_of l.demands)
