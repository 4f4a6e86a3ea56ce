use Rattle.std.proofs.Common.{◌≡◌, take}
use Rattle.ltm_scenario.specs.Valid.{IsValid}
use Rattle.ltm_core.specs.Log.{after_batches}
use Rattle.ltm_core.proofs.the_core.shown_again.after.Given as goal

abbrev pub invariant-loop-place : goal.invariant-loop-place
invariant-loop-place l = record {
  made : l.scenario ≡ after_batches l.opening (take l.place l.batches);
  valid : IsValid l.scenario;
}
