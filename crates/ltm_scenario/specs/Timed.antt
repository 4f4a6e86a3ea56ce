-- The limits of links beside their diagrams.
use Rattle.std.specs.Prelude.{◌≡◌, ℕ, ◌≤◌, Bool, List, All, map, Ok}
use Rattle.ltm_diagram.specs.declared.diagram.Diagram.{Diagram}
use Rattle.ltm_diagram.specs.Limits.{limits_of}
use Rattle.ltm_diagram.specs.Delays.{AreDelays}
use Rattle.ltm_scenario.specs.declared.diagrams.Timed.{Timed}
use Rattle.ltm_units.specs.Bounds.{longest_step}

-- beside each diagram stand the limits that it sets, with their times counted in slots
pub record AreTimed (step : ℕ) (carry : Bool) (diagrams : List Diagram) (timed : List Timed) : Type 0 where
  pub some_step : 1 ≤ step
  pub small_step : step ≤ longest_step
  pub limits : map (λ diagram. limits_of diagram step carry) diagrams ≡ map (λ t. Ok t.limits) timed
  pub delays : All (λ t. AreDelays step t.limits t.delays) timed
