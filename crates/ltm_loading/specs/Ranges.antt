-- How large the numbers of a loading get.
use Rattle.std.specs.Prelude.{ℕ, ◌+◌, ◌*◌, ◌<◌, ◌≤◌, slice_index}
use Rattle.ltm_curve.specs.Counts.{Counts, total}
use Rattle.ltm_node.specs.Inputs.{Inputs}
use Rattle.ltm_node.specs.Outputs.{Outputs}
use Rattle.ltm_node.specs.Step.{IsNodeStep}
use Rattle.ltm_node.specs.Solvable.{IsSolvable}
use Rattle.ltm_loading.specs.Setting.{Setting, IsSetting}
use Rattle.ltm_loading.specs.Groups.{up_of, down_of, dep_of, arr_of}
use Rattle.ltm_loading.specs.Pairs.{pair_inputs}
use Rattle.ltm_loading.specs.Loading.{IsFront}
use Rattle.ltm_loading.specs.NextPair.{IsPairInputs}
use Rattle.ltm_units.specs.Bounds.{most_in_slot}

-- what a pair of the front's slot reads is in the range of a node step
abbrev pub InRange : Type 0
InRange = (s : Setting) (c : Counts) (t u : ℕ) → IsSetting s → IsFront s c t → t < s.slots → u < s.nodes → IsSolvable (pair_inputs s c u t)

-- a count of the front is at most 160,000 units for each slot so far
abbrev pub CountsSmall : Type 0
CountsSmall =
    (s : Setting) (c : Counts) → IsSetting s → (t : ℕ) → IsFront s c t → t ≤ s.slots → (d : ℕ) → d < s.destinations →
    ((l : ℕ) → l < s.links → (c (up_of l) d t ≤ t * 160000) × (c (down_of l) d t ≤ t * 160000))
    × (((u : ℕ) → u < s.nodes → 0 < s.outs u → c (dep_of s u) d t ≤ t * 160000) × (c (arr_of s) d t ≤ t * 160000))

-- what enters a link in a slot, and what leaves it, is at most its capacity, and so is what leaves an origin
abbrev pub WithinCapacity : Type 0
WithinCapacity =
    (s : Setting) (c : Counts) (t : ℕ) → IsSetting s → IsFront s c (t + 1) → t < s.slots →
    ((l : ℕ) → l < s.links →
    (total s.destinations (c (up_of l)) (t + 1) ≤ total s.destinations (c (up_of l)) t + s.capacity l t)
    × (total s.destinations (c (down_of l)) (t + 1) ≤ total s.destinations (c (down_of l)) t + s.capacity l t))
    × ((u : ℕ) → u < s.nodes → 0 < s.outs u → total s.destinations (c (dep_of s u)) (t + 1) ≤ total s.destinations (c (dep_of s u)) t + s.origin_capacity)

-- so what has entered a link, has left it or has left an origin is at most 32,000 units for each slot so far
abbrev pub TotalsSmall : Type 0
TotalsSmall =
    (s : Setting) (c : Counts) → IsSetting s → (t : ℕ) → IsFront s c t → t ≤ s.slots →
    ((l : ℕ) → l < s.links → (total s.destinations (c (up_of l)) t ≤ t * most_in_slot) × (total s.destinations (c (down_of l)) t ≤ t * most_in_slot))
    × ((u : ℕ) → u < s.nodes → 0 < s.outs u → total s.destinations (c (dep_of s u)) t ≤ t * most_in_slot)

-- the numbers of a pair's node step at the front are counts of the next boundary, and as small
abbrev pub OutputsSmall : Type 0
OutputsSmall =
    (s : Setting) (c : Counts) (t u : ℕ) (n : Inputs) (o : Outputs) → IsSetting s → t < s.slots → u < s.nodes → IsFront s c t →
    IsPairInputs s c u t n → IsNodeStep n o → (k : ℕ) → slice_index o.row k ≤ (t + 1) * 160000
