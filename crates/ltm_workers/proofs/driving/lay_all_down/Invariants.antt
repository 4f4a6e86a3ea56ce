use Rattle.std.specs.Prelude.{ℕ, ◌≡◌, ◌<◌, length, IsSome, slice_index_or, Option}
use Rattle.ltm_core.specs.Claims.{ScratchData}
use Rattle.ltm_workers.proofs.Turning.{LaidDown}
use Rattle.ltm_workers.proofs.driving.lay_all_down.Given as goal

abbrev pub invariant-loop-worker : goal.invariant-loop-worker
invariant-loop-worker l = record {
  laid : LaidDown l.fn.core l.fn.hands l.worker l.core l.hands;
  four : length l.scratches ≡ 4;
  full : (i : ℕ) (d : Option ScratchData) → i < l.worker → IsSome (slice_index_or l.scratches i d);
}
