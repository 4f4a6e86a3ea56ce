-- Scenarios that are alike make settings of one size.
use Rattle.std.proofs.Common.{◌≡◌, ℕ, ◌≤◌, ap, refl, sym, ◌∙◌, arith}
use Rattle.ltm_scenario.specs.Data.{ScenarioData}
use Rattle.ltm_loading.specs.Setting.{Setting}
use Rattle.ltm_loading.specs.Groups.{groups}
use Rattle.ltm_setting.specs.Setting.{setting_of}
use Rattle.ltm_flows.specs.declared.loading.Loading.{Loading}
use Rattle.ltm_flows.specs.Shown.{Shows, Fits, loading_room}
use Rattle.ltm_core.specs.Cores.{IsAlike}

pub alike_refl : (s : ScenarioData) → IsAlike s s
alike_refl s = record { slots = omega arith; network = refl; destinations = refl }

pub alike_trans : (a b c : ScenarioData) → IsAlike a b → IsAlike b c → IsAlike a c
alike_trans a b c one two = record { slots = omega (one.slots, two.slots, arith); network = two.network ∙ one.network; destinations = two.destinations ∙ one.destinations }

-- as many groups, nodes, links and destinations
pub record SameSizes (r s : Setting) : Type 0 where
  pub groups : groups s ≡ groups r
  pub nodes : s.nodes ≡ r.nodes
  pub links : s.links ≡ r.links
  pub destinations : s.destinations ≡ r.destinations

pub same_sizes : (a b : ScenarioData) → b.network ≡ a.network → b.destinations ≡ a.destinations → SameSizes (setting_of a) (setting_of b)
unfolding setting_of
same_sizes a b network destinations = record {
  groups = ap (λ n. groups (setting_of (record a { network = n }))) network;
  nodes = ap (λ n. (setting_of (record a { network = n })).nodes) network;
  links = ap (λ n. (setting_of (record a { network = n })).links) network;
  destinations = ap (λ n. (setting_of (record a { destinations = n })).destinations) destinations;
}

-- a loading has the sizes of every setting of those sizes, whose horizon is no shorter and for which there is room
pub shown_fits : (r s : Setting) (v : ℕ) (l : Loading) → SameSizes r s → r.slots ≤ s.slots → Shows r v l → s.slots ≤ loading_room l → Fits s l
shown_fits r s v l same longer shows room = record {
  groups = shows.1.shape.same_groups ∙ sym same.groups;
  slots = omega (longer, shows.1.shape.same_slots, arith);
  room = room;
  links = shows.1.links ∙ sym same.links;
  nodes = shows.1.nodes ∙ sym same.nodes;
}
