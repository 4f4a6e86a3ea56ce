-- What is noted before a split row is set.
use Rattle.std.specs.Prelude.{◌≡◌, Some, None, List}
use Rattle.ltm_splits.specs.declared.keys.SplitKey.{SplitKey}
use Rattle.ltm_splits.specs.Rows.{SplitRow, row_of}
use Rattle.ltm_splits.specs.Weights.{AreWeights}
use Rattle.ltm_scenario.specs.declared.parts.undo.Undo.{Undo}
use Rattle.ltm_scenario.specs.declared.parts.undo.Undo.TheVariants.{Demand, Limit, NewSplit, OldSplit, Pair, Diagram, Horizon}

-- the row that stands at the key, or that none does
abbrev pub IsSplitNote : List SplitRow → SplitKey → Undo → Type 0
IsSplitNote rows key (Demand row) = ⊥
IsSplitNote rows key (Limit side link from was) = ⊥
IsSplitNote rows key (NewSplit at) = (at ≡ key) × (row_of rows key ≡ None)
IsSplitNote rows key (OldSplit at was) = (at ≡ key) × (row_of rows key ≡ Some was.items) × AreWeights was.items
IsSplitNote rows key (Pair node destination was) = ⊥
IsSplitNote rows key (Diagram link diagram limits) = ⊥
IsSplitNote rows key (Horizon slots) = ⊥
