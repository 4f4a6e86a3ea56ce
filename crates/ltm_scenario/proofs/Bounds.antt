-- Products of numbers within bounds.
use Rattle.std.proofs.Common.{ℕ, ◌*◌, ◌≤◌, arith}
use Rattle.std.proofs.Math.Nat.{mul-le-mul_left, mul-le-mul_right}

pub product_le : (a b most other : ℕ) → a ≤ most → b ≤ other → a * b ≤ most * other
product_le a b most other ha hb = omega (arith, mul-le-mul_left a hb, mul-le-mul_right other ha)
