-- How much a loading of the scenario keeps.
use Rattle.std.specs.Prelude.{ℕ, ◌+◌, ◌*◌, ◌==◌, ◌||◌, Bool, not, nat_le, if◌then◌else◌, length, sum_by}
use Rattle.std.specs.List.{range_with_len}
use Rattle.ltm_network.specs.Network.{out_links, in_links}
use Rattle.ltm_scenario.specs.Data.{ScenarioData}

-- the arms of a node: its in-links, and its origin where it has an out-link
abbrev pub arms_of : ℕ → ℕ → ℕ
arms_of ins outs = if outs == 0 then ins else ins + 1

-- the numbers that a pair of a node reads: for each arm and destination what it sends and what had left; for each
-- out-link and destination what had entered and the weight; what had arrived; what each out-link receives; the
-- capacity of each arm
abbrev pub width_of : ℕ → ℕ → ℕ → ℕ
width_of arms outs destinations = 2 * arms * destinations + 2 * outs * destinations + 1 + outs + arms

abbrev pub width : ScenarioData → ℕ → ℕ
width s node =
    let ins = length (in_links s.network node) in
    let outs = length (out_links s.network node) in
    width_of (arms_of ins outs) outs (length s.destinations)

-- of all nodes
unfoldable pub widths : ScenarioData → ℕ
widths s = sum_by (width s) (range_with_len 0 (length s.network.nodes))

-- the rows of all pairs, the counts of two sets of curves, and the entry and exit limits
abbrev pub cells_of : ℕ → ℕ → ℕ → ℕ → ℕ → ℕ
cells_of slots widths links nodes destinations =
    slots * widths + 2 * (slots + 1) * (2 * links + nodes + 1) * destinations + 2 * links * slots

-- what a loading of the scenario would keep over that many slots
unfoldable pub cells_with : ScenarioData → ℕ → ℕ
cells_with s slots = cells_of slots (widths s) (length s.network.links) (length s.network.nodes) (length s.destinations)

unfoldable pub cells : ScenarioData → ℕ
cells s = cells_with s s.setup.slots

-- the case may have so many cells: any number where the history of a loading is not kept
abbrev pub has_room : ScenarioData → ℕ → Bool
has_room s n = not s.setup.history || nat_le n s.setup.most_cells
