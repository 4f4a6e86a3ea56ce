use Rattle.std.proofs.Common.{◌≤◌, ◌*◌, ◌/◌, w64, to_z, of_z, nat_abs, arith}
use Rattle.std.proofs.Math.Nat.{div-le_of_le-mul}
use Rattle.std.proofs.lemmas.Int.{ints}
use Rattle.ltm_curve.proofs.curves.Curves.at.Goals as goal

pub overflow_cast-boundary : goal.overflow_cast-boundary
overflow_cast-boundary c =
    let within : nat_abs (to_z w64 (of_z w64 c.args.time)) ≤ c.args.self.now.slots * c.args.step.0 = omega (arith, ints) in
    let top : nat_abs (to_z w64 (of_z w64 c.args.time)) / c.args.step.0 ≤ c.args.self.now.slots = div-le_of_le-mul c.args.step.0 (omega arith) in
    omega arith
