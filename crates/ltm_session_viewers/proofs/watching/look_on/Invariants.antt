use Rattle.std.proofs.Common.{◌≡◌}
use Rattle.ltm_session_viewers.specs.Hung.{watch_hook}
use Rattle.ltm_session_viewers.proofs.watching.look_on.Given as goal

abbrev pub invariant-loop : goal.invariant-loop
invariant-loop g l =
    (goal.iterator-loop g).can_next l.iterator' × (goal.iterator-loop g).is_finite l.iterator' × (watch_hook l.watch ≡ watch_hook l.fn.watch)
