use Rattle.std.proofs.Common.{ℕ, ◌+◌, ◌*◌, ◌^◌, slice_index, arith, refl, ap, sym, ◌∙◌}
use Rattle.std.proofs.lemmas.List.{length-set}
use Rattle.ltm_curve.specs.Totals.{row_sum}
use Rattle.ltm_curve.specs.Table.{counts_of}
use Rattle.ltm_curve.proofs.Places.{sets_holds}
use Rattle.ltm_curve.proofs.Totals.{set_small, totals_set}
use Rattle.ltm_curve.proofs.curves.Curves.set_one.Goals as goal

pub invariant_of-self-clause-sums : goal.invariant_of-self-clause-sums
unfolding counts_of
invariant_of-self-clause-sums c = λ several.
    totals_set c.args.self.now.totals.items c.args.self.now.counts.items c.args.self.now.destinations _ c.row_number-row.result c.place-place.result c.args.destination c.others-others.result c.args.count c.capped.result (c.args.self.now.sums several)
    c.requires.place.is_destination
    (c.place-place.ensures.place ∙ ap (λ (z : ℕ). z * c.args.self.now.destinations + c.args.destination) (sym c.row_number-row.ensures.number)) c.place-place.ensures.within (omega arith)
    (ap (λ (z : ℕ). c.others-others.result + slice_index c.args.self.now.counts.items z) c.place-place.ensures.place
    ∙ (c.others-others.ensures.total ∙ ap (λ (z : ℕ). row_sum c.args.self.now.counts.items c.args.self.now.destinations z) (sym c.row_number-row.ensures.number)))
    c.capped.ensures

pub invariant_of-self-clause-small : goal.invariant_of-self-clause-small
invariant_of-self-clause-small c = set_small c.args.self.now.counts.items c.place-place.result c.args.count (2 ^ 31) c.place-place.ensures.within c.requires.small c.args.self.now.small

pub invariant_of-self-clause-all_totals : goal.invariant_of-self-clause-all_totals
invariant_of-self-clause-all_totals c = λ several. length-set c.args.self.now.totals.items c.row_number-row.result _ ∙ c.args.self.now.all_totals several

pub returns : goal.returns
returns c =
    sets_holds c.args.self.now _ c.args.group c.args.destination c.args.boundary c.args.count c.place-place.result c.requires.place (record { groups = refl; destinations = refl; slots = refl })
    c.place-place.ensures.place c.place-place.ensures.within refl
