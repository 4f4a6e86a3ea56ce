use Rattle.std.proofs.Common.{ℕ, ◌+◌, ◌-◌, ◌*◌, ◌≤◌, ◌^◌, List, length, slice_index, arith, inl, inr, refl, ap}
use Rattle.std.proofs.Math.Nat.{mul-le-mul_right}
use Rattle.std.proofs.lemmas.Bool.{cases_lt}
use Rattle.ltm_curve.proofs.Longer.{length_longer, small_longer, totals_longer}
use Rattle.ltm_curve.proofs.Totals.{totals_same}
use Rattle.ltm_curve.proofs.Places.{rows_within, places_within, kept_in, none_past}
use Rattle.ltm_curve.proofs.curves.Curves.lengthen.Goals as goal

pub overflow_mul-rows : goal.overflow_mul-rows
overflow_mul-rows c = let up : c.args.slots + 1 ≤ 2 ^ 32 = omega (arith, c.ranges.slots.fits) in omega (arith, mul-le-mul_right c.args.self.now.groups up)

pub fill_to-requires-clause-longer : goal.fill_to-requires-clause-longer
fill_to-requires-clause-longer c =
    omega (arith, c.args.self.now.long, places_within c.args.self.now.slots c.args.slots c.args.self.now.groups c.args.self.now.destinations c.requires.slots)

pub fill_to-requires-2-clause-longer : goal.fill_to-requires-2-clause-longer
fill_to-requires-2-clause-longer c =
    elim (cases_lt c.args.self.now.destinations 3) [
      | inl few ↦ omega (arith, c.args.self.now.no_totals few)
      | inr several ↦ omega (arith, c.args.self.now.all_totals several, c.total_count.ensures.several several, rows_within c.args.self.now.slots c.args.slots c.args.self.now.groups c.requires.slots)
    ]

pub invariant_of-self-clause-long : goal.invariant_of-self-clause-long
invariant_of-self-clause-long c =
    length_longer c.args.self.now.counts.items _ _ c.fill_to.ensures.items
    (omega (arith, c.args.self.now.long, places_within c.args.self.now.slots c.args.slots c.args.self.now.groups c.args.self.now.destinations c.requires.slots))

pub invariant_of-self-clause-small : goal.invariant_of-self-clause-small
invariant_of-self-clause-small c = λ i.
    omega (arith, ap (λ (xs : List ℕ). slice_index xs i) c.fill_to.ensures.items, small_longer c.args.self.now.counts.items ((c.args.slots + 1) * c.args.self.now.groups * c.args.self.now.destinations - length c.args.self.now.counts.items) (2 ^ 31) (omega arith) c.args.self.now.small i)

pub invariant_of-self-clause-sums : goal.invariant_of-self-clause-sums
invariant_of-self-clause-sums c = λ several.
    totals_same _ _ _ _ _ _ _ _ c.fill_to-2.ensures.items c.fill_to.ensures.items refl refl
    (totals_longer c.args.self.now.totals.items c.args.self.now.counts.items c.args.self.now.destinations ((c.args.self.now.slots + 1) * c.args.self.now.groups) _ _ _ (c.args.self.now.sums several) (c.args.self.now.all_totals several) c.args.self.now.long)

pub returns-clause-kept : goal.returns-clause-kept
returns-clause-kept c = λ g d k x. kept_in c.args.self.now _ _ g d k refl refl c.fill_to.ensures.items x

pub returns-clause-empty : goal.returns-clause-empty
returns-clause-empty c = λ g d k x l. none_past c.args.self.now _ _ g d k refl refl c.fill_to.ensures.items l
