use Rattle.std.proofs.Common.{◌≡◌}
use Rattle.ltm_turn.specs.Passes.{turn_id, worker_turn}
use Rattle.test_share.proofs.turns.count_as_worker.Given as goal

abbrev pub invariant-loop : goal.invariant-loop
invariant-loop g l = (worker_turn l.pass ≡ turn_id l.turn)
