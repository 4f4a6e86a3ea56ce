-- What a table of what origins have produced says, and what becomes of it.
use Rattle.std.specs.Prelude.{◌≡◌, ◌≢◌, ℕ, ◌<◌, ◌≤◌, ◌⊎◌}
use Rattle.ltm_loading.specs.Setting.{Setting}
use Rattle.ltm_flows.specs.Amounts.{amount_at}
use Rattle.ltm_flows.specs.Origins.{produced_in_all}
use Rattle.ltm_flows.specs.declared.production.Production.{Production}

-- what the origin of a node has produced by a boundary
abbrev pub produced_in : Production → ℕ → ℕ → ℕ
produced_in p node boundary = amount_at p.amounts.items p.nodes node boundary

-- what all origins have
abbrev pub all_produced : Production → ℕ → ℕ
all_produced p boundary = amount_at p.amounts.items p.nodes p.nodes boundary

-- of as many nodes, and with as much room
pub record SameSizes (old new : Production) : Type 0 where
  pub nodes : new.nodes ≡ old.nodes
  pub room : new.room ≡ old.room

-- the amount of a node and boundary is set, and that of no other
pub record SetsAmount (old new : Production) (node boundary amount : ℕ) : Type 0 where
  pub sizes : SameSizes old new
  pub here : produced_in new node boundary ≡ amount
  pub others : (n k : ℕ) → n < old.nodes → k ≤ old.room → (n ≢ node) ⊎ (k ≢ boundary) → produced_in new n k ≡ produced_in old n k

-- what a node has produced by the boundaries from one up to another is that of a setting, and all else as before
pub record RenewsNode (s : Setting) (node from end : ℕ) (old new : Production) : Type 0 where
  pub sizes : SameSizes old new
  pub renewed : (k : ℕ) → from ≤ k → k < end → produced_in new node k ≡ produced_in_all s node k
  pub others : (n k : ℕ) → n < old.nodes → k ≤ old.room → (n ≢ node) ⊎ ((k < from) ⊎ (end ≤ k)) → produced_in new n k ≡ produced_in old n k

-- what the first nodes have produced by the boundaries from one up to another is that of a setting, and what any node has
-- by another boundary is as before
pub record RenewsNodes (s : Setting) (count from end : ℕ) (old new : Production) : Type 0 where
  pub sizes : SameSizes old new
  pub renewed : (n k : ℕ) → n < count → from ≤ k → k < end → produced_in new n k ≡ produced_in_all s n k
  pub others : (n k : ℕ) → n < old.nodes → k ≤ old.room → (k < from) ⊎ (end ≤ k) → produced_in new n k ≡ produced_in old n k

-- no node has produced anything
abbrev pub ProducesNothing : Production → Type 0
ProducesNothing p = (n k : ℕ) → n < p.nodes → k ≤ p.room → produced_in p n k ≡ 0

-- the first nodes have produced what a setting says by each boundary up to its last, and the others nothing
pub record ProducedByFirst (s : Setting) (count : ℕ) (old new : Production) : Type 0 where
  pub sizes : SameSizes old new
  pub first : (n k : ℕ) → n < count → n < old.nodes → k ≤ s.slots → produced_in new n k ≡ produced_in_all s n k
  pub others : (n k : ℕ) → count ≤ n → n < old.nodes → k ≤ s.slots → produced_in new n k ≡ 0
