use Rattle.std.proofs.Common.{ℕ, ◌≡◌, ◌∙◌, arith, length, slice_index}
use Rattle.ltm_curve.proofs.Lists.{list_from}
use Rattle.ltm_curve.specs.First.{list_below}
use Rattle.ltm_curve.specs.Table.{destinations_of, counts_of}
use Rattle.ltm_inputs.proofs.Filling.{filled_more}
use Rattle.ltm_inputs.proofs.counts.put_groups.Goals as goal

pub loop-group-preserved : goal.loop-group-preserved
loop-group-preserved c =
    let w : ℕ = destinations_of c.args.curves.now in
    let i : ℕ = c.loop-group.group-index in
    let f : ℕ → ℕ → ℕ = λ k d. counts_of c.args.curves.now (slice_index c.args.groups.now k) d c.args.boundary in
    let row : c.put_numbers.new.into ≡ list_below w (f i) = c.put_numbers.ensures ∙ list_from w (f i) c.row-row.result.now c.row-row.ensures.count c.row-row.ensures.counts in
    filled_more c.loop-group.into c.loop-group.place i w c.destinations-destinations.result _ (length c.args.groups.now) f c.put_numbers.new.into c.loop-group.invariant c.loop-group-test.true (omega (arith, c.loop-group.auto.into, c.requires.room)) c.destinations-destinations.ensures.value
    (omega (arith, c.destinations-destinations.ensures.value)) row
