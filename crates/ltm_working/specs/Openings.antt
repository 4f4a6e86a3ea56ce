-- How far a loading has come for which the inputs of its pairs are kept.
use Rattle.std.specs.Prelude.{◌≡◌, ℕ, ◌<◌, ◌≤◌}
use Rattle.ltm_curve.specs.Counts.{Counts}
use Rattle.ltm_curve.specs.Table.{counts_of}
use Rattle.ltm_loading.specs.Setting.{Setting}
use Rattle.ltm_loading.specs.Groups.{groups}
use Rattle.ltm_flows.specs.Working.{IsWorking, IsWorkingAt, HasRoom}
use Rattle.ltm_rows.specs.Begins.{TellsBegins}
use Rattle.ltm_working.specs.declared.opening.Opening.{Opening}
use Rattle.ltm_working.specs.Placing.{KeepsSlots}

-- no count up to a boundary changes
abbrev pub StaysTo : Setting → ℕ → Counts → Counts → Type 0
StaysTo s k old new = (g d j : ℕ) → g < groups s → d < s.destinations → j ≤ k → new g d j ≡ old g d j

-- all slots before one are done, and what their pairs read is kept
pub record IsOpenTo (s : Setting) (o : Opening) (slot : ℕ) : Type 0 where
  pub working : IsWorking s o.curves slot
  pub keeps : KeepsSlots s (counts_of o.curves) o.kept o.index slot 0
  pub begins : TellsBegins s o.begins
  pub inputs : HasRoom s o.inputs.room
  pub outputs : HasRoom s o.outputs.room

-- within a slot so it is with the first nodes, and the counts of the others are carried on
pub record IsOpenAt (s : Setting) (o : Opening) (slot nodes : ℕ) : Type 0 where
  pub working : IsWorkingAt s o.curves slot nodes
  pub keeps : KeepsSlots s (counts_of o.curves) o.kept o.index slot nodes
  pub begins : TellsBegins s o.begins
  pub inputs : HasRoom s o.inputs.room
  pub outputs : HasRoom s o.outputs.room
