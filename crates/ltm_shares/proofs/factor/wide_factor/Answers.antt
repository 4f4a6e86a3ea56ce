use Rattle.ltm_shares.proofs.Factors.{digits_factor}
use Rattle.ltm_shares.proofs.factor.wide_factor.Goals as goal

pub returns : goal.returns
returns c =
    digits_factor c.args.numerator c.args.denominator c.digit-first.result.0 c.digit-second.result.0 c.digit-first.result.1 c.digit-second.result.1 c.digit-first.ensures.whole c.digit-second.ensures.whole c.digit-second.ensures.below_one
