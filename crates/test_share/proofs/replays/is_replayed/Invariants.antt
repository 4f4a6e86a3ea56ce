use Rattle.ltm_scenario.specs.Valid.{IsValid}
use Rattle.test_share.proofs.replays.is_replayed.Given as goal

abbrev pub invariant-loop-call : goal.invariant-loop-call
invariant-loop-call l = IsValid l.scenario
