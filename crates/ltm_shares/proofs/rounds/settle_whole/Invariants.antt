use Rattle.ltm_shares.specs.Demands.{demands_of}
use Rattle.ltm_shares.proofs.Steps.{IsSettlingWhole}
use Rattle.ltm_shares.proofs.rounds.settle_whole.Given as goal

abbrev pub invariant-loop-arm : goal.invariant-loop-arm
invariant-loop-arm l = IsSettlingWhole (demands_of l.demands) l.level l.weight l.out l.initial.progress l.arm l.any l.progress
