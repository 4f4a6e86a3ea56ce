-- Which edits change what an origin has produced, and what is renewed after them.
use Rattle.std.specs.Prelude.{◌≡◌, ℕ, ◌<◌, ◌≤◌, Bool, true, false, ◌&&◌, ◌==◌, nat_lt, List}
use Rattle.std.specs.List.{list_any}
use Rattle.std.specs.Option.{option_map_or}
use Rattle.ltm_scenario.specs.Network.{NetworkData, find_node}
use Rattle.ltm_scenario.specs.declared.edit.Edit.{Edit}
use Rattle.ltm_scenario.specs.declared.edit.Edit.TheVariants.{Demand, Limit, Split, Splits, Diagram, Exit, Horizon}
use Rattle.ltm_loading.specs.Setting.{Setting}
use Rattle.ltm_flows.specs.declared.loading.Loading.{Loading}
use Rattle.ltm_flows.specs.Origins.{produced_in_all}
use Rattle.ltm_flows.specs.Shown.{nodes_of, last_of, produced_of, SameButProduction}

-- demand of an origin from a slot on changes what the origin of a node has produced by a boundary: it is the node's own, and
-- begins before
abbrev pub demand_changes : NetworkData → List ℕ → ℕ → ℕ → ℕ → Bool
demand_changes network origin from node boundary =
    option_map_or (λ u. (u == node) && nat_lt from boundary) (find_node network origin) false

-- an edit changes it, which one of demand alone may do
abbrev pub changes : NetworkData → ℕ → ℕ → Edit → Bool
changes network node boundary (Demand origin destination from to amount) = demand_changes network origin from node boundary
changes network node boundary (Limit link from to amount) = false
changes network node boundary (Split node-of destination from weights) = false
changes network node boundary (Splits node-of destination rows) = false
changes network node boundary (Diagram link diagram) = false
changes network node boundary (Exit link from to amount) = false
changes network node boundary (Horizon slots) = false

-- some edit does, and some edit of batches
abbrev pub edits_change : NetworkData → List Edit → ℕ → ℕ → Bool
edits_change network edits node boundary = list_any (changes network node boundary) edits

abbrev pub batches_change : NetworkData → List (List Edit) → ℕ → ℕ → Bool
batches_change network batches node boundary = list_any (λ edits. edits_change network edits node boundary) batches

-- what a loading keeps of its origins is that of a setting where it was changed, and as before elsewhere; all else stays
pub record Renews (s : Setting) (changed : ℕ → ℕ → Bool) (old new : Loading) : Type 0 where
  pub same : SameButProduction old new
  pub renewed : (n k : ℕ) → n < nodes_of old → k ≤ last_of old → changed n k ≡ true → produced_of new n k ≡ produced_in_all s n k
  pub others : (n k : ℕ) → n < nodes_of old → k ≤ last_of old → changed n k ≡ false → produced_of new n k ≡ produced_of old n k
