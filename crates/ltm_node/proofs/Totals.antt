-- What the arms send into each out-link is added up.
use Rattle.std.proofs.Common.{◌≡◌, ℕ, zero, suc, ◌+◌, ◌*◌, ◌%◌, ◌<◌, ◌≤◌, arith}
use Rattle.ltm_units.specs.Sums.{sum_below}
use Rattle.ltm_units.proofs.Sums.{sum_below_more, sum_below-same}
use Rattle.ltm_shares.specs.Sent.{sent_at}
use Rattle.ltm_shares.specs.declared.sent.Sent.{Sent}
use Rattle.ltm_node.specs.Inputs.{Inputs, supply}
use Rattle.ltm_node.specs.Demands.{sent_into}
use Rattle.ltm_node.specs.Solvable.{IsSolvable}
use Rattle.ltm_node.specs.Moving.{HoldsSent, TakesAll}
use Rattle.ltm_node.proofs.Demanded.{inflow_small}

-- what holds of each of four places
pub of_four : (P : ℕ → Type 0) → P 0 → P 1 → P 2 → P 3 → (j : ℕ) → j < 4 → P j
of_four P a b c d zero l = a
of_four P a b c d (suc zero) l = b
of_four P a b c d (suc (suc zero)) l = c
of_four P a b c d (suc (suc (suc zero))) l = d
of_four P a b c d (suc (suc (suc (suc j)))) l = absurd (omega arith)

-- the sum of one arm more does not wrap
pub total_on : (n : Inputs) (s : Sent) (j a t x : ℕ) → IsSolvable n → HoldsSent n s → a < n.shape.arms → j < n.shape.outs → t ≡ sum_below a (λ i. sent_at s i j) → x ≡ sent_at s a j →
    (t + x) % 18446744073709551616 ≡ sum_below (a + 1) (λ i. sent_at s i j)
total_on n s j a t x solvable held al jl is more =
    let next : sum_below (a + 1) (λ i. sent_at s i j) ≡ sum_below a (λ i. sent_at s i j) + sent_at s a j = sum_below_more (λ i. sent_at s i j) a in
    let small : sum_below (a + 1) (λ i. sent_at s i j) ≤ (a + 1) * 32000 = inflow_small n s j (a + 1) solvable held jl (omega arith) in
    omega (arith, solvable.few_arms)

-- an out-link whose total is within its supply takes all
pub takes_all : (n : Inputs) (s : Sent) (j t : ℕ) → HoldsSent n s → j < n.shape.outs → t ≡ sum_below n.shape.arms (λ i. sent_at s i j) → t ≤ supply n j → TakesAll n j
takes_all n s j t held jl is fits =
    omega (arith, sum_below-same n.shape.arms (λ i. sent_at s i j) (λ i. sent_into n i j) (λ i il. held i j il jl))
