use Rattle.std.proofs.Common.{refl}
use Rattle.ltm_gap.proofs.Adding.{gap_to}
use Rattle.ltm_gap.proofs.gaps.Gaps.to.Goals as goal

pub returns : goal.returns
returns c = λ s l v counts are shows. gap_to s l v counts c.args.self.now c.args.destination c.sum-sum.result _ c.requires c.sum-sum.ensures refl refl are shows
