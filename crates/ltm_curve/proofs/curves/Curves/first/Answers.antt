use Rattle.std.proofs.Common.{arith}
use Rattle.ltm_curve.proofs.Lists.{none_at}
use Rattle.ltm_curve.proofs.curves.Curves.first.Goals as goal

pub first_less_of-requires-clause-behind : goal.first_less_of-requires-clause-behind
first_less_of-requires-clause-behind c d l = let none = none_at c.destinations-destinations.result 2000 d (omega arith) in omega (arith, none)

pub returns : goal.returns
returns c d l = let none = none_at c.destinations-destinations.result 2000 d (omega arith) in omega (arith, none, c.first_less_of.ensures d l)
