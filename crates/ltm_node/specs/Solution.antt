use Rattle.ltm_node.specs.Inputs.{Inputs}
use Rattle.ltm_node.specs.Outputs.{Outputs}

-- inputs and the counts that follow from them
pub record Solution : Type 0 where
  pub inputs : Inputs
  pub outputs : Outputs
