-- Where the counts of a network stand in its curves: two groups for each link, one for each node's origin, and one for
-- what has arrived.
use Rattle.std.specs.Prelude.{ℕ, ◌+◌, ◌*◌}
use Rattle.ltm_loading.specs.Setting.{Setting}

-- what has entered a link
abbrev pub up_of : ℕ → ℕ
up_of link = 2 * link

-- what has left a link
abbrev pub down_of : ℕ → ℕ
down_of link = 2 * link + 1

-- what has left the origin of a node
abbrev pub dep_of : Setting → ℕ → ℕ
dep_of s node = 2 * s.links + node

-- what has arrived
abbrev pub arr_of : Setting → ℕ
arr_of s = 2 * s.links + s.nodes

abbrev pub groups : Setting → ℕ
groups s = 2 * s.links + s.nodes + 1
