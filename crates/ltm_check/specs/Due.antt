-- Which record stands where below the header of a curve file: for each group of counts in order, and for each destination
-- in order, one.
use Rattle.std.specs.Prelude.{ℕ, ◌+◌, ◌-◌, ◌*◌, ◌/◌, ◌%◌, ◌==◌, nat_lt, List, length, codes, if◌then◌else◌}
use Rattle.ltm_scenario.specs.Network.{link_name, node_name}
use Rattle.ltm_scenario.specs.Data.{ScenarioData}
use Rattle.ltm_scenario.specs.Reads.{destination_name}
use Rattle.ltm_loading.specs.Groups.{up_of, groups}
use Rattle.ltm_setting.specs.Setting.{setting_of}

-- how many records there are
abbrev pub record_count : ScenarioData → ℕ
record_count s = groups (setting_of s) * (setting_of s).destinations

-- the place of the record of a group and a destination
abbrev pub record_place : ScenarioData → ℕ → ℕ → ℕ
record_place s group destination = group * (setting_of s).destinations + destination

abbrev pub group_at : ScenarioData → ℕ → ℕ
group_at s place = place / (setting_of s).destinations

abbrev pub destination_at : ScenarioData → ℕ → ℕ
destination_at s place = place % (setting_of s).destinations

-- the groups of links come first, two for each link, and then those of nodes
abbrev pub link_groups : ScenarioData → ℕ
link_groups s = up_of (length s.network.links)

abbrev pub node_groups_end : ScenarioData → ℕ
node_groups_end s = link_groups s + length s.network.nodes

-- what is counted: what has entered a link, has left it, has left an origin, or has arrived
abbrev pub kind_of : ScenarioData → ℕ → List ℕ
kind_of s group =
    if nat_lt group (link_groups s) then (if group == up_of (group / 2) then codes "up" else codes "down")
    else if nat_lt group (node_groups_end s) then codes "dep" else codes "arr"

-- the name of the link, of the node, or of the destination, of which it is counted
abbrev pub name_of : ScenarioData → ℕ → ℕ → List ℕ
name_of s group destination =
    if nat_lt group (link_groups s) then link_name s.network (group / 2)
    else if nat_lt group (node_groups_end s) then node_name s.network (group - link_groups s)
    else destination_name s destination
