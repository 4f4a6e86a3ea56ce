use Rattle.std.proofs.Common.{arith}
use Rattle.ltm_session.proofs.settling.count.Goals as goal

pub returns-in-Some : goal.returns-in-Some
returns-in-Some c = c.in-Some.ensures.answer

pub unreachable-requires : goal.unreachable-requires
unreachable-requires c = let (fewer, same) = c.in-None.ensures.answer in absurd (omega (arith, fewer, c.requires))
