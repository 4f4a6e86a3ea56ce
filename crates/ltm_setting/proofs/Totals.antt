-- What a node has produced of all destinations.
use Rattle.std.proofs.Common.{◌≡◌, ℕ, ◌-◌, ◌<◌, List, length, ◌∙◌}
use Rattle.std.specs.Prelude.{All}
use Rattle.ltm_units.specs.Sums.{sum_below}
use Rattle.ltm_units.proofs.Sums.{sum_below-same, sum_below-zero}
use Rattle.ltm_demand.specs.declared.row.DemandRow.{DemandRow}
use Rattle.ltm_demand.specs.Produced.{by_end, origin_by_end}
use Rattle.ltm_scenario.specs.Data.{ScenarioData}
use Rattle.ltm_scenario.specs.IsScenario.{IsScenario}
use Rattle.ltm_setting.specs.Setting.{produced_by}
use Rattle.ltm_setting.proofs.AreSettings.{first, later}

abbrev pub AddUp : Type 0
AddUp = (count : ℕ) (rows : List DemandRow) (o t : ℕ) → All (λ row. row.destination < count) rows → sum_below count (λ d. by_end rows o d t) ≡ origin_by_end rows o t

-- by the first boundary nothing, and by each later one what the origin has produced by the end of the slot before
pub total_first : (s : ScenarioData) (u k : ℕ) → k ≡ 0 → sum_below (length s.destinations) (λ d. produced_by s.demand u d k) ≡ 0
total_first s u k none = sum_below-zero (length s.destinations) (λ d. produced_by s.demand u d k) (λ d _. first s.demand u d k none)

pub total_later : (s : ScenarioData) (u k : ℕ) → IsScenario s → AddUp → 0 < k → sum_below (length s.destinations) (λ d. produced_by s.demand u d k) ≡ origin_by_end s.demand u (k - 1)
total_later s u k is add_up some =
    sum_below-same (length s.destinations) (λ d. produced_by s.demand u d k) (λ d. by_end s.demand u d (k - 1)) (λ d _. later s.demand u d k some)
    ∙ add_up (length s.destinations) s.demand u (k - 1) (λ i row below. (is.demand i row below).destination_is_one)
