use Rattle.std.specs.Prelude.{take, All, IsSome}
use Rattle.ltm_workers.specs.Draining.{KeepsButWork}
use Rattle.ltm_workers.specs.Hands.{all_held, AreHandsKept, Follows}
use Rattle.ltm_workers.proofs.driving.follow.Given as goal

abbrev pub invariant-loop-byte : goal.invariant-loop-byte
invariant-loop-byte l = record {
  follows : Follows l.fn.core l.fn.steps (take l.byte-index l.schedule) l.tally.given_back l.tally.not_yet (all_held l.hands) l.core l.steps;
  keeps : KeepsButWork l.fn.core l.core;
  kept : AreHandsKept l.core l.hands;
  full : All IsSome l.hands;
}
