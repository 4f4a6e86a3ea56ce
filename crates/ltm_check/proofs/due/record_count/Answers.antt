use Rattle.std.proofs.Common.{arith, refl}
use Rattle.std.proofs.Math.Nat.{mul-le-mul}
use Rattle.ltm_check.proofs.due.record_count.Goals as goal

pub returns-clause-count : goal.returns-clause-count
returns-clause-count c = rw (c.group_count.ensures.count, c.destination_count.ensures.value) refl

pub returns-clause-few : goal.returns-clause-few
returns-clause-few c = omega (arith, mul-le-mul c.group_count.ensures.few c.destination_count.ensures.few)
