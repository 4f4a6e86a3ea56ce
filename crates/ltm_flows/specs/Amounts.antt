-- A table of amounts of nodes by boundary. Those of a boundary lie side by side: that of each node, and behind them that of
-- all nodes together.
use Rattle.std.specs.Prelude.{◌≡◌, ℕ, ◌+◌, ◌*◌, ◌%◌, ◌^◌, ◌<◌, ◌≤◌, List, length, slice_index}
use Rattle.ltm_units.specs.Sums.{sum_below}
use Rattle.ltm_units.specs.Bounds.{most_produced}

-- the amount in a column at a boundary, of so many nodes
abbrev pub amount_at : List ℕ → ℕ → ℕ → ℕ → ℕ
amount_at amounts nodes column boundary = slice_index amounts (boundary * (nodes + 1) + column)

-- amounts of so many nodes by the boundaries up to one, none of them great, and what they come to by each boundary, as 64 bits
-- hold it
pub record AreAmounts (nodes last : ℕ) (amounts : List ℕ) : Type 0 where
  pub long : length amounts ≡ (last + 1) * (nodes + 1)
  pub small : (n k : ℕ) → n < nodes → k ≤ last → amount_at amounts nodes n k ≤ most_produced
  pub adds_up : (k : ℕ) → k ≤ last → amount_at amounts nodes nodes k ≡ sum_below nodes (λ n. amount_at amounts nodes n k) % 2 ^ 64
