use Rattle.std.proofs.Common.{ℕ, ◌<◌, ◌≤◌}
use Rattle.ltm_shares.specs.Sent.{sent_at}
use Rattle.ltm_units.specs.Sums.{sum_below}
use Rattle.ltm_node.specs.Inputs.{supply}
use Rattle.ltm_node.proofs.node_step.fits_supply.Given as goal

abbrev pub invariant-loop-out : goal.invariant-loop-out
invariant-loop-out l = (j : ℕ) → j < l.out → sum_below l.inputs.shape.arms (λ i. sent_at l.sent i j) ≤ supply l.inputs j
