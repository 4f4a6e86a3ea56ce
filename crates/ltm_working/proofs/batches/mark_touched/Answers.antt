use Rattle.std.proofs.Common.{◌≡◌, ◌+◌, ◌||◌, ℕ, List, Bool, take, get_or, ap, sym, ◌∙◌}
use Rattle.std.proofs.lemmas.List.Folds.{list_any_more}
use Rattle.ltm_units.specs.declared.places.Reach.{Reach}
use Rattle.ltm_pairs.specs.Reaches.{lies_in_one}
use Rattle.ltm_pairs.specs.Touched.{touched_by, is_touched}
use Rattle.ltm_working.specs.Batches.{in_reaches}
use Rattle.ltm_working.proofs.Activating.{act_as, act_both}
use Rattle.ltm_working.proofs.Weighing.{unweighs_as, unweighs_both}
use Rattle.ltm_working.proofs.batches.mark_touched.Goals as goal

pub loop-edit-preserved : goal.loop-edit-preserved
loop-edit-preserved c =
    let s = c.args.scenario.now in
    let edits = c.args.edits.now in
    let i : ℕ = c.loop-edit.edit-index in
    let reaches : List Reach = c.reaches.result.now in
    let first : ℕ → ℕ → Bool = is_touched s (take i edits) in
    let more : ℕ → ℕ → Bool = is_touched s (take (i + 1) edits) in
    let at : c.reaches.result.now ≡ touched_by s (get_or edits i c.edit-item.result) = c.reaches.ensures ∙ (c.touched.ensures.reaches ∙ ap (touched_by s) c.edit-item.is) in
    let same : (w v : ℕ) → (first w v || in_reaches reaches w v) ≡ more w v = λ w v.
    ap (λ (z : List Reach). first w v || in_reaches z w v) at ∙ sym (list_any_more (λ edit. lies_in_one (touched_by s edit) w v) edits i c.edit-item.result c.loop-edit-test.true) in
    record {
      marks = act_as c.args.frontier.now c.mark_reaches.new.frontier (λ w v. first w v || in_reaches reaches w v) more
          (act_both c.args.frontier.now c.loop-edit.frontier c.mark_reaches.new.frontier first (in_reaches reaches) c.loop-edit.invariant.marks c.mark_reaches.ensures.marks) (λ w v x y. same w v);
      weights = unweighs_as c.args.kept.now c.mark_reaches.new.kept (λ w v. first w v || in_reaches reaches w v) more
          (unweighs_both c.args.kept.now c.loop-edit.kept c.mark_reaches.new.kept first (in_reaches reaches) c.loop-edit.invariant.weights c.mark_reaches.ensures.weights) same;
    }
