use Rattle.std.proofs.Common.{◌≡◌}
use Rattle.ltm_editors.specs.Seats.{seat_place}
use Rattle.test_share.proofs.crowds.edit.Given as goal

abbrev pub invariant-loop-turn : goal.invariant-loop-turn
invariant-loop-turn g l = (seat_place l.seat ≡ seat_place l.fn.seat)
