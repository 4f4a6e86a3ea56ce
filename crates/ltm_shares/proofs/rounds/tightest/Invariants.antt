use Rattle.ltm_shares.specs.Demands.{demands_of}
use Rattle.ltm_shares.proofs.Steps.{IsBest}
use Rattle.ltm_shares.proofs.rounds.tightest.Given as goal

abbrev pub invariant-loop-out : goal.invariant-loop-out
invariant-loop-out l = IsBest (demands_of l.demands) l.progress l.out l.best
