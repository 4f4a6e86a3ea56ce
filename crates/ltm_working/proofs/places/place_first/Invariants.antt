use Rattle.ltm_curve.specs.Table.{counts_of}
use Rattle.ltm_setting.specs.Setting.{setting_of}
use Rattle.ltm_working.specs.Placing.{PlacesPair}
use Rattle.ltm_working.proofs.places.place_first.Given as goal

abbrev pub invariant-loop-place : goal.invariant-loop-place
invariant-loop-place l = PlacesPair (setting_of l.fn.scenario) (counts_of l.fn.curves) l.fn.index l.index l.fn.pair.node.0 l.fn.pair.slot l.place
