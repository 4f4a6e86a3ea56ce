-- Places of a scenario, as a loading counts them, and what of a setting contracts name most.
use Rattle.std.specs.Prelude.{ℕ, ◌+◌, ◌*◌, ◌<◌, ◌≤◌}
use Rattle.ltm_units.specs.Bounds.{most_links, most_nodes}
use Rattle.ltm_curve.specs.declared.curves.Curves.{Curves}
use Rattle.ltm_node.specs.declared.shape.NodeShape.{NodeShape}
use Rattle.ltm_scenario.specs.Data.{ScenarioData}
use Rattle.ltm_loading.specs.Pairs.{arms_of, shape_at}
use Rattle.ltm_loading.specs.Groups.{groups}
use Rattle.ltm_loading.specs.Shaped.{IsShaped}
use Rattle.ltm_setting.specs.Setting.{setting_of}

-- two groups of each link, one of each node, and the one behind them
abbrev pub last_group : ℕ
last_group = 2 * most_links + most_nodes

-- all groups
abbrev pub most_groups : ℕ
most_groups = last_group + 1

-- ---- which numbers are those of a node, a slot, a link, a destination
abbrev pub IsNode : ScenarioData → ℕ → Type 0
IsNode s u = u < (setting_of s).nodes

abbrev pub IsSlot : ScenarioData → ℕ → Type 0
IsSlot s t = t < (setting_of s).slots

abbrev pub IsLink : ScenarioData → ℕ → Type 0
IsLink s l = l < (setting_of s).links

abbrev pub IsDestination : ScenarioData → ℕ → Type 0
IsDestination s d = d < (setting_of s).destinations

-- a boundary: the beginning of a slot, or the end of the last one
abbrev pub IsBoundary : ScenarioData → ℕ → Type 0
IsBoundary s k = k ≤ (setting_of s).slots

-- a node has a link of this number that leads out of it, or into it
abbrev pub HasOut : ScenarioData → ℕ → ℕ → Type 0
HasOut s u j = j < (setting_of s).outs u

abbrev pub HasIn : ScenarioData → ℕ → ℕ → Type 0
HasIn s u i = i < (setting_of s).ins u

-- ---- how many arms a node has, its shape, and how many groups of counts there are
abbrev pub arms_at : ScenarioData → ℕ → ℕ
arms_at s u = arms_of (setting_of s) u

abbrev pub node_shape : ScenarioData → ℕ → NodeShape
node_shape s u = shape_at (setting_of s) u

abbrev pub all_groups : ScenarioData → ℕ
all_groups s = groups (setting_of s)

-- curves with the groups, destinations and slots of a scenario
abbrev pub IsShapedFor : ScenarioData → Curves → Type 0
IsShapedFor s c = IsShaped (setting_of s) c
