use Rattle.std.proofs.Common.{refl}
use Rattle.ltm_curve.proofs.Places.{same_everywhere}
use Rattle.ltm_curve.proofs.curves.Curves.reserve.Goals as goal

pub returns-in_err-reserve_to-clause-counts : goal.returns-in_err-reserve_to-clause-counts
returns-in_err-reserve_to-clause-counts c = same_everywhere _ _ (record { groups = refl; destinations = refl; slots = refl }) c.reserve_to.ensures.items

pub returns-in_err-reserve_to-2-clause-counts : goal.returns-in_err-reserve_to-2-clause-counts
returns-in_err-reserve_to-2-clause-counts c = same_everywhere _ _ (record { groups = refl; destinations = refl; slots = refl }) c.reserve_to.ensures.items

pub returns-clause-counts : goal.returns-clause-counts
returns-clause-counts c = same_everywhere _ _ (record { groups = refl; destinations = refl; slots = refl }) c.reserve_to.ensures.items
