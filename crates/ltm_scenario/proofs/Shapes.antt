-- What no edit changes, and the horizon, fix the cells.
use Rattle.std.proofs.Common.{◌≡◌, ℕ, List, length, sum_by, refl, sym, ap, ◌∙◌}
use Rattle.std.specs.List.{range_with_len}
use Rattle.ltm_network.specs.Network.{NetworkData, in_links, out_links}
use Rattle.ltm_scenario.specs.declared.setup.Setup.{Setup}
use Rattle.ltm_scenario.specs.Data.{ScenarioData}
use Rattle.ltm_scenario.specs.Cells.{arms_of, width_of, widths, cells_of, cells_with, cells}
use Rattle.ltm_scenario.specs.Shape.{SameShape}

-- the cells by what they rest on
pub cells_by : Setup → NetworkData → List ℕ → ℕ
cells_by setup network destinations =
    cells_of setup.slots (sum_by (λ node. let ins = length (in_links network node) in let outs = length (out_links network node) in width_of (arms_of ins outs) outs (length destinations)) (range_with_len 0 (length network.nodes)))
    (length network.links) (length network.nodes) (length destinations)

cells_are : (s : ScenarioData) → cells s ≡ cells_by s.setup s.network s.destinations
unfolding cells cells_with widths cells_by
cells_are s = refl

pub cells_rest_on : (setup : Setup) (network : NetworkData) (destinations : List ℕ) (s : ScenarioData) → s.setup ≡ setup → s.network ≡ network → s.destinations ≡ destinations → cells s ≡ cells_by setup network destinations
cells_rest_on setup network destinations s a b c = cells_are s ∙ (λ i. cells_by (a i) (b i) (c i))

-- the cells by what they rest on, of the setup the horizon alone
by_slots : (a b : Setup) (network : NetworkData) (destinations : List ℕ) → a.slots ≡ b.slots → cells_by a network destinations ≡ cells_by b network destinations
unfolding cells_by
by_slots a b network destinations same = ap (λ n. cells_by (record b { slots = n }) network destinations) same

pub same_cells : (old new : ScenarioData) → SameShape old new → new.setup.slots ≡ old.setup.slots → cells new ≡ cells old
same_cells old new same slots =
    cells_rest_on new.setup old.network old.destinations new refl same.network same.destinations
    ∙ by_slots new.setup old.setup old.network old.destinations slots
    ∙ sym (cells_are old)
