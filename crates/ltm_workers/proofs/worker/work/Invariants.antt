use Rattle.std.proofs.Common.{◌≡◌, ◌≤◌}
use Rattle.ltm_turn.specs.Passes.{turn_id, worker_turn, worker_seen}
use Rattle.ltm_workers.proofs.worker.work.Given as goal

abbrev pub invariant-loop : goal.invariant-loop
invariant-loop g l =
    (goal.iterator-loop g).can_next l.iterator' × (goal.iterator-loop g).is_finite l.iterator' × (worker_turn l.pass ≡ turn_id l.turn) × (worker_seen l.fn.pass ≤ worker_seen l.pass)
