use Rattle.std.proofs.Common.{◌≡◌, ◌+◌, ℕ, length}
use Rattle.ltm_setting.specs.Setting.{setting_of}
use Rattle.ltm_gap.specs.Steps.{AreSums, AddsSlots, IsPair}
use Rattle.ltm_gap.proofs.pair.Pair.add_origin.Given as goal

abbrev pub invariant-loop-slot : goal.invariant-loop-slot
invariant-loop-slot l = record {
  pair : IsPair (setting_of l.scenario) l.loading l.origin.0 l.slot l.self;
  count : length l.sums.items ≡ length l.fn.sums.items;
  adds : AddsSlots (setting_of l.scenario) l.loading l.origin.0 l.slot l.fn.sums.items l.sums.items;
  small : (parts : ℕ) → AreSums parts l.fn.sums.items → AreSums (parts + l.slot) l.sums.items;
}
