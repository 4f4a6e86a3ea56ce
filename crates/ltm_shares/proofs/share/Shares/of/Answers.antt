use Rattle.std.proofs.Common.{◌≡◌, ◌<◌, slice_index, rules}
use Rattle.ltm_shares.specs.Factors.{factor}
use Rattle.ltm_shares.proofs.Factors.{share_narrow, share_at_least, share_below}
use Rattle.ltm_shares.proofs.share.Shares.of.Goals as goal

pub returns-then-scaled-amount-le-WHOLE : goal.returns-then-scaled-amount-le-WHOLE
returns-then-scaled-amount-le-WHOLE c =
    let s = c.args.self.now in
    let positive : 0 < s.denominator = search rules in
    let in_factors : slice_index s.factors c.args.arm ≡ factor (slice_index s.numerators c.args.arm) s.denominator = search rules in
    share_narrow (slice_index s.numerators c.args.arm) s.denominator (slice_index s.factors c.args.arm) c.args.amount positive in_factors c.if-scaled-amount-le-WHOLE.true

pub nearest_below-requires-clause-at_least : goal.nearest_below-requires-clause-at_least
nearest_below-requires-clause-at_least c =
    let s = c.args.self.now in
    let in_factors : slice_index s.factors c.args.arm ≡ factor (slice_index s.numerators c.args.arm) s.denominator = search rules in
    share_at_least (slice_index s.numerators c.args.arm) s.denominator (slice_index s.factors c.args.arm) c.args.amount in_factors

pub nearest_below-requires-clause-below : goal.nearest_below-requires-clause-below
nearest_below-requires-clause-below c =
    let s = c.args.self.now in
    let positive : 0 < s.denominator = search rules in
    let in_factors : slice_index s.factors c.args.arm ≡ factor (slice_index s.numerators c.args.arm) s.denominator = search rules in
    share_below (slice_index s.numerators c.args.arm) s.denominator (slice_index s.factors c.args.arm) c.args.amount positive c.requires.amount in_factors
