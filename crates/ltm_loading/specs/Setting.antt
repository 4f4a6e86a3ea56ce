-- What a loading reads of a case.
use Rattle.std.specs.Prelude.{◌≡◌, ℕ, ◌+◌, ◌<◌, ◌≤◌, Bool, Option, Some}
use Rattle.ltm_curve.specs.First.{RowsRise}
use Rattle.ltm_units.specs.Bounds.{most_in_slot, most_slots, most_destinations}

-- links, nodes and destinations are numbers; a time is in milliseconds, an amount in units
pub record Setting : Type 0 where
  pub step : ℕ
  pub slots : ℕ
  pub nodes : ℕ
  pub links : ℕ
  pub destinations : ℕ
  pub origin_capacity : ℕ
  -- whether what an arm of a node moves by an out-link is rounded down once for all destinations
  pub by_turn : Bool
  -- the nodes at the ends of a link
  pub tail : ℕ → ℕ
  pub head : ℕ → ℕ
  -- how many in-links a node has, the link at each place, and the place of each link
  pub ins : ℕ → ℕ
  pub in_link : ℕ → ℕ → ℕ
  pub in_place : ℕ → ℕ
  pub outs : ℕ → ℕ
  pub out_link : ℕ → ℕ → ℕ
  pub out_place : ℕ → ℕ
  -- the limits of a link; capacity and the limits of entry and exit are for each slot
  pub free_time : ℕ → ℕ
  pub wave_time : ℕ → ℕ
  pub capacity : ℕ → ℕ → ℕ
  pub storage : ℕ → ℕ
  pub entry_limit : ℕ → ℕ → ℕ
  pub exit_limit : ℕ → ℕ → ℕ
  -- the destination that a node is, and the node that a destination is
  pub own : ℕ → Option ℕ
  pub place : ℕ → ℕ
  -- what a node has produced of a destination by a boundary
  pub produced : ℕ → ℕ → ℕ → ℕ
  -- the weight in force at a node for a destination, at a slot, of an out-link by its place
  pub weight : ℕ → ℕ → ℕ → ℕ → ℕ

-- each link stands at one place among the in-links of its head and the out-links of its tail, and each destination is
-- one node
pub record IsNetwork (s : Setting) : Type 0 where
  pub head_is_node : (l : ℕ) → l < s.links → s.head l < s.nodes
  pub in_place_below : (l : ℕ) → l < s.links → s.in_place l < s.ins (s.head l)
  pub in_link_at : (l : ℕ) → l < s.links → s.in_link (s.head l) (s.in_place l) ≡ l
  pub in_link_is_link : (u i : ℕ) → u < s.nodes → i < s.ins u → s.in_link u i < s.links
  pub in_link_ends : (u i : ℕ) → u < s.nodes → i < s.ins u → s.head (s.in_link u i) ≡ u
  pub in_place_of : (u i : ℕ) → u < s.nodes → i < s.ins u → s.in_place (s.in_link u i) ≡ i
  pub tail_is_node : (l : ℕ) → l < s.links → s.tail l < s.nodes
  pub out_place_below : (l : ℕ) → l < s.links → s.out_place l < s.outs (s.tail l)
  pub out_link_at : (l : ℕ) → l < s.links → s.out_link (s.tail l) (s.out_place l) ≡ l
  pub out_link_is_link : (u j : ℕ) → u < s.nodes → j < s.outs u → s.out_link u j < s.links
  pub out_link_starts : (u j : ℕ) → u < s.nodes → j < s.outs u → s.tail (s.out_link u j) ≡ u
  pub out_place_of : (u j : ℕ) → u < s.nodes → j < s.outs u → s.out_place (s.out_link u j) ≡ j
  pub place_is_node : (d : ℕ) → d < s.destinations → s.place d < s.nodes
  pub own_at : (d : ℕ) → d < s.destinations → s.own (s.place d) ≡ Some d
  pub own_is_destination : (u d : ℕ) → u < s.nodes → s.own u ≡ Some d → d < s.destinations
  pub own_place : (u d : ℕ) → u < s.nodes → s.own u ≡ Some d → s.place d ≡ u

-- the sizes that an engine is made for
pub record IsSmall (s : Setting) : Type 0 where
  pub few_slots : s.slots ≤ most_slots
  pub few_ins : (u : ℕ) → u < s.nodes → s.ins u ≤ 4
  pub few_outs : (u : ℕ) → u < s.nodes → s.outs u ≤ 4
  pub few_destinations : s.destinations ≤ most_destinations
  pub capacities : (l t : ℕ) → l < s.links → s.capacity l t ≤ most_in_slot
  pub origin_capacity : s.origin_capacity ≤ most_in_slot
  pub weights : (u d t j : ℕ) → u < s.nodes → d < s.destinations → t < s.slots → j < s.outs u → s.weight u d t j ≤ 4294967295

-- a network whose links take at least a step to pass, freely and for a wave, and let something through, in no slot more than a
-- unit above any other, and origins that produce from nothing and never take back
pub record IsSetting (s : Setting) : Type 0 where
  pub network : IsNetwork s
  pub small : IsSmall s
  pub some_step : 0 < s.step
  pub some_capacity : (l t : ℕ) → l < s.links → 0 < s.capacity l t
  pub even_capacity : (l t k : ℕ) → l < s.links → s.capacity l t ≤ s.capacity l k + 1
  pub some_origin_capacity : 0 < s.origin_capacity
  pub free_time : (l : ℕ) → l < s.links → s.step ≤ s.free_time l
  pub wave_time : (l : ℕ) → l < s.links → s.step ≤ s.wave_time l
  pub produced_none : (u d : ℕ) → u < s.nodes → d < s.destinations → s.produced u d 0 ≡ 0
  pub produced_rises : (u : ℕ) → u < s.nodes → RowsRise s.destinations (s.produced u) s.slots
