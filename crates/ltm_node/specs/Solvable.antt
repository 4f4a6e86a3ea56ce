use Rattle.std.specs.Prelude.{ℕ, ◌<◌, ◌≤◌, ◌^◌}
use Rattle.ltm_node.specs.Inputs.{Inputs, left, entered, arrived, supply, capacity, weight}
use Rattle.ltm_node.specs.Demands.{sent}
use Rattle.ltm_units.specs.Bounds.{most_in_slot, most_destinations}

-- the sizes that a node step is made for
pub record IsSolvable (n : Inputs) : Type 0 where
  pub few_arms : n.shape.arms ≤ 5
  pub few_outs : n.shape.outs ≤ 4
  pub few_destinations : n.shape.destinations ≤ most_destinations
  pub some_capacity : (arm : ℕ) → arm < n.shape.arms → 1 ≤ capacity n arm
  pub capacities : (arm : ℕ) → arm < n.shape.arms → capacity n arm ≤ most_in_slot
  pub within_capacity : (arm : ℕ) → arm < n.shape.arms → sent n arm ≤ capacity n arm
  pub supplies : (out : ℕ) → out < n.shape.outs → supply n out ≤ most_in_slot
  pub weights : (destination out : ℕ) → destination < n.shape.destinations → out < n.shape.outs →
      weight n destination out ≤ 4294967295
  pub left_counts : (arm destination : ℕ) → arm < n.shape.arms → destination < n.shape.destinations →
      left n arm destination ≤ 2 ^ 48
  pub entered_counts : (out destination : ℕ) → out < n.shape.outs → destination < n.shape.destinations →
      entered n out destination ≤ 2 ^ 48
  pub arrived_count : arrived n ≤ 2 ^ 48
