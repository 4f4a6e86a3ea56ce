use Rattle.std.proofs.Common.{◌≡◌, ℕ, ◌+◌, ◌<◌, ◌∷◌, [], ◌++◌, List, take, length, slice_index_or, ap, sym, ◌∙◌, arith, ◌≤◌}
use Rattle.std.proofs.lemmas.List.{take_more}
use Rattle.ltm_scenario.specs.declared.edit.Edit.{Edit}
use Rattle.ltm_scenario.specs.Data.{ScenarioData}
use Rattle.ltm_core.specs.Log.{after_batch, after_batches}
use Rattle.ltm_core.proofs.Logs.{after_more}
use Rattle.ltm_core.proofs.the_core.shown_again.after.Goals as goal

pub loop-place-preserved : goal.loop-place-preserved
loop-place-preserved c =
    let batch : List Edit = c.index-batches-place.result in
    let k : ℕ = c.loop-place.place in
    let more : take (k + 1) c.args.batches.now ≡ take k c.args.batches.now ++ batch ∷ []
    = take_more c.args.batches.now k batch (omega arith) ∙ ap (λ (b : List Edit). take k c.args.batches.now ++ b ∷ []) (sym c.index-batches-place.is) in
    record {
      made = c.in_ok-make.ensures.made ∙ ap (λ (s : ScenarioData). after_batch s batch) c.loop-place.invariant.made ∙ sym (ap (after_batches c.args.opening.now) more ∙ after_more c.args.opening.now (take k c.args.batches.now) batch);
      valid = c.in_ok-make.ensures.valid;
    }
