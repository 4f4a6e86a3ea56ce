use Rattle.std.proofs.Common.{◌≡◌, ◌*◌, length, replicate}
use Rattle.ltm_units.specs.Bounds.{most_slots}
use Rattle.ltm_setting.specs.Setting.{setting_of}
use Rattle.ltm_gap.specs.Steps.{no_sum, AreSums, IsIdle}
use Rattle.ltm_gap.specs.Parts.{AddsPart}
use Rattle.ltm_gap.proofs.parts.sums_of.Given as goal

abbrev pub invariant-loop-origin : goal.invariant-loop-origin
invariant-loop-origin l = record {
  pair : IsIdle (setting_of l.scenario) l.pair;
  count : length l.sums.items ≡ (setting_of l.scenario).destinations;
  adds : AddsPart (setting_of l.scenario) l.loading l.owners l.part l.origin (replicate (setting_of l.scenario).destinations no_sum) l.sums.items;
  small : AreSums (l.origin * most_slots) l.sums.items;
}
