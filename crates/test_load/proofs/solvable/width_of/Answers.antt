use Rattle.std.proofs.Common.{◌≤◌, arith}
use Rattle.std.proofs.Math.Nat.{mul-le-mul_right}
use Rattle.test_load.proofs.solvable.width_of.Goals as goal

pub width-width-requires : goal.width-width-requires
width-width-requires g c =
    let s = c.args.shape in
    let arms : s.arms ≤ 5 = omega arith in
    let outs : s.outs ≤ 4 = omega arith in
    omega (arith, mul-le-mul_right s.destinations arms, mul-le-mul_right s.destinations outs)
