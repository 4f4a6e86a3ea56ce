-- The diagrams of links.
use Rattle.std.specs.Prelude.{ℕ, List}
use Rattle.ltm_diagram.specs.declared.diagram.Diagram.{Diagram}
use Rattle.ltm_scenario.specs.declared.diagrams.Pace.{Pace}

-- the pace at which they set limits, and how many more there is room for
pub record DiagramsState : Type 0 where
  pub pace : Pace
  pub diagrams : List Diagram
  pub room : ℕ
