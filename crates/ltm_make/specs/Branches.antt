-- The weights of a made case's split rows.
use Rattle.std.specs.Prelude.{ℕ, ◌+◌, ◌-◌, ◌%◌, ◌==◌, ◌&&◌, nat_lt, nat_le, if◌then◌else◌, Option, Some, None}
use Rattle.rand_pcg.specs.Lcg.{Lcg}
use Rattle.ltm_network.specs.Names.{number_of}
use Rattle.ltm_network.specs.Network.{NetworkData}
use Rattle.ltm_make.specs.declared.branches.Branch.{Branch}
use Rattle.ltm_make.specs.declared.branches.Way.{Way}
use Rattle.ltm_make.specs.Words.{word, rest}
use Rattle.ltm_make.specs.Names.{name_of_node}
use Rattle.ltm_make.specs.Grid.{has_right}

-- the number that the network gives to a node of the grid
abbrev pub number : NetworkData → ℕ → ℕ
number d k = number_of d.nodes (name_of_node k)

-- a branch's weight, and the words that are left: none is drawn where there is no choice
abbrev pub weight_of : Branch → Lcg → ℕ
weight_of b g = if b.choices == 0 then b.least else b.least + word g % b.choices

abbrev pub words_after : Branch → Lcg → Lcg
words_after b g = if b.choices == 0 then g else rest g

-- the weight of a link that ends at a node: that of the first way that leads there, else 0
abbrev pub weight_if : Option Way → ℕ → ℕ
weight_if None node = 0
weight_if (Some way) node = if way.node.0 == node then way.weight else 0

abbrev pub weight_to : Way → Option Way → ℕ → ℕ
weight_to first second node = if first.node.0 == node then first.weight else weight_if second node

-- to one or both of the neighbours to the left and above
abbrev pub nearer : ℕ → Branch
nearer k = record { to = k; least = 1; choices = 3 }

-- towards the first node: to the left, else up; and up as well where there is a left
abbrev pub home_first : ℕ → ℕ → Branch
home_first width k = if nat_lt 0 (k % width) then nearer (k - 1) else nearer (k - width)

abbrev pub home_second : ℕ → ℕ → Option Branch
home_second width k = if nat_lt 0 (k % width) && nat_le width k then Some (nearer (k - width)) else None

-- towards the end of the first row: along it, and from other rows up, or to the right where there is one
abbrev pub away_first : ℕ → ℕ → Branch
away_first width k = if nat_lt k width then record { to = k + 1; least = 1; choices = 0 } else nearer (k - width)

abbrev pub away_second : ℕ → ℕ → ℕ → Option Branch
away_second nodes width k = if nat_le width k && has_right nodes width k then Some (record { to = k + 1; least = 0; choices = 3 }) else None
