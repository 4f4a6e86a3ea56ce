use Rattle.ltm_shares.specs.Demands.{demands_of}
use Rattle.ltm_shares.proofs.Steps.{IsSettlingScaled}
use Rattle.ltm_shares.proofs.rounds.settle_scaled.Given as goal

abbrev pub invariant-loop-arm : goal.invariant-loop-arm
invariant-loop-arm l = IsSettlingScaled (demands_of l.demands) l.level l.weight l.out l.fn.progress l.arm l.progress
