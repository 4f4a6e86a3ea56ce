use Rattle.std.specs.Prelude.{ℕ, ◌+◌, ◌*◌, ◌==◌, Bool, false, Option, Some, None}
use Rattle.ltm_node.specs.declared.shape.NodeShape.{NodeShape}

-- how many numbers the inputs of a pair are
abbrev pub width : NodeShape → ℕ
width s = 2 * (s.arms * s.destinations) + 2 * (s.outs * s.destinations) + 1 + s.outs + s.arms

-- how many counts a step gives
abbrev pub counts_width : NodeShape → ℕ
counts_width s = s.arms * s.destinations + s.outs * s.destinations + 1

-- a node without arms, out-links and destinations
abbrev pub no_shape : NodeShape
no_shape = record { arms = 0; outs = 0; destinations = 0; own = None; by_turn = false }

-- whether a destination is this one
abbrev pub is_this : Option ℕ → ℕ → Bool
is_this None destination = false
is_this (Some own) destination = own == destination

-- whether a destination is the node itself
abbrev pub is_own : NodeShape → ℕ → Bool
is_own s destination = is_this s.own destination

-- what the arms send comes first in the row of the inputs; where the counts begin behind it: first what has left the
-- arms, then what has entered the out-links, last what has arrived
abbrev pub counts_begin : NodeShape → ℕ
counts_begin s = s.arms * s.destinations

-- where what an arm sends to a destination stands in the row of the inputs
abbrev pub sending_place : NodeShape → ℕ → ℕ → ℕ
sending_place s arm destination = arm * s.destinations + destination

-- where the count that has left an arm for a destination stands
abbrev pub left_place : NodeShape → ℕ → ℕ → ℕ
left_place s arm destination = counts_begin s + (arm * s.destinations + destination)

-- where the count that has entered an out-link for a destination stands
abbrev pub entered_place : NodeShape → ℕ → ℕ → ℕ
entered_place s out destination = 2 * (s.arms * s.destinations) + (out * s.destinations + destination)

-- where the count that has arrived stands
abbrev pub arrived_place : NodeShape → ℕ
arrived_place s = 2 * (s.arms * s.destinations) + s.outs * s.destinations

-- where the supplies of the out-links begin, behind the counts
abbrev pub supplies_begin : NodeShape → ℕ
supplies_begin s = arrived_place s + 1

-- where the capacities of the arms begin, behind the supplies
abbrev pub capacities_begin : NodeShape → ℕ
capacities_begin s = supplies_begin s + s.outs

-- where the weights begin, behind the capacities, destination by destination
abbrev pub weights_begin : NodeShape → ℕ
weights_begin s = capacities_begin s + s.arms

-- where the supply of an out-link stands
abbrev pub supply_place : NodeShape → ℕ → ℕ
supply_place s out = supplies_begin s + out

-- where the capacity of an arm stands
abbrev pub capacity_place : NodeShape → ℕ → ℕ
capacity_place s arm = capacities_begin s + arm

-- where the weights of a destination begin
abbrev pub weights_place : NodeShape → ℕ → ℕ
weights_place s destination = weights_begin s + destination * s.outs
