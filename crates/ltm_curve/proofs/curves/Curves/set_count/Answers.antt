use Rattle.std.proofs.Common.{◌^◌, refl, arith}
use Rattle.ltm_curve.proofs.Places.{sets_holds}
use Rattle.ltm_curve.proofs.Totals.{set_small}
use Rattle.ltm_curve.proofs.curves.Curves.set_count.Goals as goal

pub invariant_of-self-clause-small : goal.invariant_of-self-clause-small
invariant_of-self-clause-small c = set_small c.args.self.now.counts.items c.place-place.result c.args.count (2 ^ 31) c.place-place.ensures.within c.requires.small c.args.self.now.small

pub invariant_of-self-clause-sums : goal.invariant_of-self-clause-sums
invariant_of-self-clause-sums c = λ several. absurd (omega (arith, several, c.requires.few))

pub returns : goal.returns
returns c =
    sets_holds c.args.self.now _ c.args.group c.args.destination c.args.boundary c.args.count c.place-place.result c.requires.place (record { groups = refl; destinations = refl; slots = refl })
    c.place-place.ensures.place c.place-place.ensures.within refl
