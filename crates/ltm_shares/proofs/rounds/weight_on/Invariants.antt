use Rattle.std.proofs.Common.{◌≡◌, ◌*◌, slice_index}
use Rattle.ltm_units.specs.Sums.{sum_below}
use Rattle.ltm_shares.specs.Sent.{sent_at}
use Rattle.ltm_shares.proofs.rounds.weight_on.Given as goal

abbrev pub invariant-loop-arm : goal.invariant-loop-arm
invariant-loop-arm l = l.sum ≡ sum_below l.arm (λ i. slice_index l.progress.pending i * sent_at l.demands.sending i l.out)
