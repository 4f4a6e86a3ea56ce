-- The parts of a pair's row, in order.
use Rattle.std.specs.Prelude.{◌≡◌, ◌<◌, ◌≤◌, ℕ, List, ◌++◌, map, slice_index}
use Rattle.ltm_units.specs.declared.places.LinkId.{LinkId}
use Rattle.ltm_curve.specs.Counts.{Counts}
use Rattle.ltm_curve.specs.First.{list_below}
use Rattle.ltm_loading.specs.Setting.{Setting}
use Rattle.ltm_loading.specs.Groups.{up_of}
use Rattle.ltm_loading.specs.Flows.{receiving, position}
use Rattle.ltm_loading.specs.Pairs.{arms_of, sending, arm_group, arm_capacity, arrived_by, grid}

-- the number of the link at a place
abbrev pub link_at : List LinkId → ℕ → ℕ
link_at links i = slice_index (map (λ link. link.0) links) i

-- what each arm sends
abbrev pub sending_part : Setting → Counts → ℕ → ℕ → List ℕ
sending_part s c u t = grid (arms_of s u) s.destinations (sending s c u t)

-- what has left each arm
abbrev pub left_part : Setting → Counts → ℕ → ℕ → List ℕ
left_part s c u t = grid (arms_of s u) s.destinations (λ i d. c (arm_group s u i) d t)

-- what has entered each out-link
abbrev pub entered_part : Setting → Counts → ℕ → ℕ → List ℕ
entered_part s c u t = grid (s.outs u) s.destinations (λ j d. c (up_of (s.out_link u j)) d t)

-- what has arrived
abbrev pub arrived_part : Setting → Counts → ℕ → ℕ → List ℕ
arrived_part s c u t = list_below 1 (λ k. arrived_by s c (s.own u) t)

-- what each out-link can take
abbrev pub supply_part : Setting → Counts → ℕ → ℕ → List ℕ
supply_part s c u t = list_below (s.outs u) (λ j. receiving s c (s.out_link u j) t)

-- the capacity of each arm
abbrev pub capacity_part : Setting → ℕ → ℕ → List ℕ
capacity_part s u t = list_below (arms_of s u) (arm_capacity s u t)

-- the weights for each destination
abbrev pub weights_part : Setting → ℕ → ℕ → List ℕ
weights_part s u t = grid s.destinations (s.outs u) (λ d j. s.weight u d t j)

-- the parts behind all counts
abbrev pub limit_parts : Setting → Counts → ℕ → ℕ → List ℕ
limit_parts s c u t = supply_part s c u t ++ (capacity_part s u t ++ weights_part s u t)

-- the position of a slot for each in-link of a node, none of them past the slot
pub record ArePositions (s : Setting) (c : Counts) (u t : ℕ) (positions : List ℕ) : Type 0 where
  pub each : (i : ℕ) → i < s.ins u → slice_index positions i ≡ position s c (s.in_link u i) t
  pub below : (i : ℕ) → i < s.ins u → slice_index positions i ≤ t
