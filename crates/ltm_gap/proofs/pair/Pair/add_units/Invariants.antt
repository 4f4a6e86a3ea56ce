use Rattle.ltm_setting.specs.Setting.{setting_of}
use Rattle.ltm_gap.specs.Steps.{IsFound, AddsBelow}
use Rattle.ltm_gap.proofs.pair.Pair.add_units.Given as goal

abbrev pub invariant-loop-destination : goal.invariant-loop-destination
invariant-loop-destination l = record {
  pair : IsFound (setting_of l.scenario) l.loading l.made.origin.0 l.made.slot l.self;
  adds : AddsBelow (setting_of l.scenario) l.loading l.made.origin.0 l.made.slot l.destination l.fn.sums.items l.sums.items;
}
