use Rattle.std.proofs.Common.{ℕ, List, length, slice_index, arith, ap, sym, ◌∙◌}
use Rattle.ltm_curve.specs.Table.{counts_of}
use Rattle.ltm_curve.proofs.Places.{same_table, same_everywhere, same_rows_of}
use Rattle.ltm_curve.proofs.Totals.{totals_same}
use Rattle.ltm_curve.proofs.curves.Curves.copy_from.Goals as goal

pub invariant_of-self-clause-sums : goal.invariant_of-self-clause-sums
invariant_of-self-clause-sums c = λ several.
    totals_same _ _ _ _ _ _ _ _ c.copy_all-2.ensures.same c.copy_all.ensures.same c.requires.destinations (same_rows_of _ _ c.requires) (c.args.other.now.sums (omega arith))

pub invariant_of-self-clause-small : goal.invariant_of-self-clause-small
invariant_of-self-clause-small c = λ i. omega (arith, ap (λ (xs : List ℕ). slice_index xs i) c.copy_all.ensures.same, c.args.other.now.small i)

pub invariant_of-self-clause-all_totals : goal.invariant_of-self-clause-all_totals
invariant_of-self-clause-all_totals c = λ several. ap length c.copy_all-2.ensures.same ∙ c.args.other.now.all_totals (omega arith) ∙ sym (same_rows_of _ _ c.requires)

pub returns-clause-same : goal.returns-clause-same
unfolding counts_of
returns-clause-same c = record {
  shape = record { groups = c.requires.groups; destinations = c.requires.destinations; slots = c.requires.slots };
  counts = λ g d k h. same_table _ _ g d k _ _ _ _ c.copy_all.ensures.same c.requires.groups c.requires.destinations;
}

pub returns-clause-all : goal.returns-clause-all
returns-clause-all c =
    same_everywhere _ _ (record { groups = c.requires.groups; destinations = c.requires.destinations; slots = c.requires.slots }) c.copy_all.ensures.same
