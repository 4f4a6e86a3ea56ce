-- Claims, and claims that are done, as contracts see them.
use Rattle.std.specs.Prelude.{ℕ, ◌≤◌}
use Rattle.ltm_units.specs.declared.places.Pair.{Pair}
use Rattle.ltm_node.specs.Inputs.{Inputs}
use Rattle.ltm_node.specs.Outputs.{Outputs}
use Rattle.ltm_node.specs.Solution.{Solution}
use Rattle.ltm_units.specs.Bounds.{widest_row}

-- the buffers of a worker
pub record ScratchData : Type 0 where
  pub inputs : Inputs
  pub outputs : Outputs

-- the pair, the number of accepted batches at the claim, and the pair's inputs; the outputs are a buffer
pub record ClaimData : Type 0 where
  pub pair : Pair
  pub ticket : ℕ
  pub inputs : Inputs
  pub outputs : Outputs

-- the same, with the node step of the inputs
pub record DoneData : Type 0 where
  pub pair : Pair
  pub ticket : ℕ
  pub solved : Solution

-- there is room for the inputs and the counts of any pair: at most 5 arms, 4 out-links and 2,000 destinations
pub record HasWidestRoom (n : Inputs) (o : Outputs) : Type 0 where
  pub inputs : widest_row ≤ n.room
  pub outputs : widest_row ≤ o.room
