-- Differences of counts that are kept in 32 bits.
use Rattle.std.proofs.Common.{◌≡◌, ℕ, ◌+◌, ◌-◌, ◌%◌, ◌^◌, ◌<◌, ◌≤◌, arith}
use Rattle.ltm_standing.specs.Standing.{IsDifference}

pub difference_more : (rest more less x : ℕ) → IsDifference rest more less → IsDifference ((rest + x) % 2 ^ 32) (more + x) less
difference_more rest more less x h = omega (arith, h)

pub difference_back : (rest more less x : ℕ) → x < 2 ^ 32 → IsDifference rest (more + x) less → IsDifference ((rest + (2 ^ 32 - x)) % 2 ^ 32) more less
difference_back rest more less x l h = omega (arith, h)

pub difference_less : (rest more less x : ℕ) → x < 2 ^ 32 → IsDifference rest more less → IsDifference ((rest + (2 ^ 32 - x)) % 2 ^ 32) more (less + x)
difference_less rest more less x l h = omega (arith, h)

-- a difference that is not below 0 and fits
pub difference_is : (rest more less share : ℕ) → IsDifference rest more less → less ≤ more + share → more + share < less + 2 ^ 32 → (rest + share) % 2 ^ 32 ≡ more + share - less
difference_is rest more less share h l m = omega (arith, h)

pub nothing_more : (r share : ℕ) → share ≡ 0 → r < 2 ^ 32 → r ≡ (r + share) % 2 ^ 32
nothing_more r share h l = omega (arith, h)
