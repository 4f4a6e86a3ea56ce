use Rattle.std.specs.Prelude.{◌≡◌, ℕ, ◌*◌, ◌<◌, ◌≤◌}
use Rattle.ltm_units.specs.Sums.{sum_below}

-- what a node has to share: how much each arm sends to each out-link, each arm's priority, and
-- what each out-link can take
pub record Demands : Type 0 where
  pub arms : ℕ
  pub outs : ℕ
  pub sending : ℕ → ℕ → ℕ
  pub priority : ℕ → ℕ
  pub supply : ℕ → ℕ

-- what all arms send into an out-link, at these numerators
abbrev pub inflow : Demands → (ℕ → ℕ) → ℕ → ℕ
inflow n p j = sum_below n.arms (λ i. p i * n.sending i j)

-- the arm sends something to the out-link
abbrev pub Uses : Demands → ℕ → ℕ → Type 0
Uses n i j = 0 < n.sending i j

-- the out-link is what holds the arm back: it is full, and none of its users has a greater share
-- for its priority
pub record HeldBackBy (n : Demands) (denominator : ℕ) (p : ℕ → ℕ) (i j : ℕ) : Type 0 where
  pub is_out : j < n.outs
  pub uses : Uses n i j
  pub full : inflow n p j ≡ n.supply j * denominator
  pub greatest : (k : ℕ) → k < n.arms → Uses n k j → p k * n.priority i ≤ p i * n.priority k

pub record AreShares (n : Demands) (denominator : ℕ) (p : ℕ → ℕ) : Type 0 where
  pub positive : 0 < denominator
  pub at_most_all : (i : ℕ) → i < n.arms → p i ≤ denominator
  pub within_supply : (j : ℕ) → j < n.outs → inflow n p j ≤ n.supply j * denominator
  pub held_back : (i : ℕ) → i < n.arms → p i < denominator → (j : ℕ) × HeldBackBy n denominator p i j

-- each arm that sends something has a priority
abbrev pub HasPriorities : Demands → Type 0
HasPriorities n = (i j : ℕ) → i < n.arms → j < n.outs → Uses n i j → 0 < n.priority i

-- two solutions are equal fractions
abbrev pub OneSolution : Type 0
OneSolution =
    (n : Demands) (d e : ℕ) (p q : ℕ → ℕ) → HasPriorities n → AreShares n d p → AreShares n e q →
    (i : ℕ) → i < n.arms → p i * e ≡ q i * d
