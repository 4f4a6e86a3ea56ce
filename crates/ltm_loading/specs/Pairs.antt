-- What a pair of node and slot reads and sets.
use Rattle.std.specs.Prelude.{ℕ, ◌+◌, ◌*◌, ◌/◌, ◌%◌, min, List, ◌++◌, Option, Some, None, if◌then◌else◌, nat_lt}
use Rattle.ltm_curve.specs.Counts.{Counts}
use Rattle.ltm_curve.specs.First.{list_below}
use Rattle.ltm_node.specs.declared.shape.NodeShape.{NodeShape}
use Rattle.ltm_node.specs.Inputs.{Inputs}
use Rattle.ltm_node.specs.Outputs.{Outputs}
use Rattle.ltm_node.specs.Step.{IsNodeStep}
use Rattle.ltm_loading.specs.Setting.{Setting}
use Rattle.ltm_loading.specs.Groups.{up_of, down_of, dep_of, arr_of}
use Rattle.ltm_loading.specs.Flows.{link_sending, origin_sending, receiving}

-- the arms of a node: its in-links, then its origin where it has an out-link
abbrev pub arms_of : Setting → ℕ → ℕ
arms_of s u = s.ins u + min 1 (s.outs u)

abbrev pub shape_at : Setting → ℕ → NodeShape
shape_at s u = record { arms = arms_of s u; outs = s.outs u; destinations = s.destinations; own = s.own u; by_turn = s.by_turn }

-- what an arm sends of a destination
abbrev pub sending : Setting → Counts → ℕ → ℕ → ℕ → ℕ → ℕ
sending s c u t i d = if nat_lt i (s.ins u) then link_sending s c (s.in_link u i) t d else origin_sending s c u t d

-- the group of what has left by an arm
abbrev pub arm_group : Setting → ℕ → ℕ → ℕ
arm_group s u i = if nat_lt i (s.ins u) then down_of (s.in_link u i) else dep_of s u

abbrev pub arm_capacity : Setting → ℕ → ℕ → ℕ → ℕ
arm_capacity s u t i = if nat_lt i (s.ins u) then s.capacity (s.in_link u i) t else s.origin_capacity

-- what has arrived at a node that is a destination
abbrev pub arrived_by : Setting → Counts → Option ℕ → ℕ → ℕ
arrived_by s c None k = 0
arrived_by s c (Some d) k = c (arr_of s) d k

-- a table, row after row
abbrev pub grid : ℕ → ℕ → (ℕ → ℕ → ℕ) → List ℕ
grid height width f = list_below (height * width) (λ k. f (k / width) (k % width))

-- the numbers that a pair reads: what each arm sends and what has left it, what has entered each out-link, what has
-- arrived, what each out-link can take, the capacity of each arm, and the weights
abbrev pub pair_row : Setting → Counts → ℕ → ℕ → List ℕ
pair_row s c u t =
    grid (arms_of s u) s.destinations (sending s c u t)
    ++ (grid (arms_of s u) s.destinations (λ i d. c (arm_group s u i) d t)
    ++ (grid (s.outs u) s.destinations (λ j d. c (up_of (s.out_link u j)) d t)
    ++ (list_below 1 (λ k. arrived_by s c (s.own u) t)
    ++ (list_below (s.outs u) (λ j. receiving s c (s.out_link u j) t)
    ++ (list_below (arms_of s u) (arm_capacity s u t)
    ++ grid s.destinations (s.outs u) (λ d j. s.weight u d t j))))))

abbrev pub pair_inputs : Setting → Counts → ℕ → ℕ → Inputs
pair_inputs s c u t = record { shape = shape_at s u; row = pair_row s c u t; room = 0 }

-- the counts of a node at a boundary: what has left each arm, what has entered each out-link, and what has arrived
abbrev pub count_row : Setting → Counts → ℕ → ℕ → List ℕ
count_row s c u k =
    grid (arms_of s u) s.destinations (λ i d. c (arm_group s u i) d k)
    ++ (grid (s.outs u) s.destinations (λ j d. c (up_of (s.out_link u j)) d k)
    ++ list_below 1 (λ i. arrived_by s c (s.own u) k))

abbrev pub pair_outputs : Setting → Counts → ℕ → ℕ → Outputs
pair_outputs s c u k = record { shape = shape_at s u; row = count_row s c u k; room = 0 }

-- the counts of a node at the end of a slot are the node step of what it reads in the slot
abbrev pub MeetsStep : Setting → Counts → ℕ → ℕ → Type 0
MeetsStep s c u t = IsNodeStep (pair_inputs s c u t) (pair_outputs s c u (t + 1))
