use Rattle.std.proofs.Common.{arith}
use Rattle.ltm_gap.proofs.Adding.{gap_in_all}
use Rattle.ltm_gap.proofs.gaps.Gaps.all.Goals as goal

pub returns : goal.returns
returns c = λ s l v counts are shows.
    gap_in_all s l v counts c.args.self.now c.loop-destination.destination _ (omega arith) c.loop-destination.invariant.least c.loop-destination.invariant.late are shows
