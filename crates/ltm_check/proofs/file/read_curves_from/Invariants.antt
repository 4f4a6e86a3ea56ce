use Rattle.std.proofs.Common.{◌≡◌, ◌<◌, ◌≤◌, ◌+◌, List, ℕ, length}
use Rattle.ltm_io.specs.Source.{prepended}
use Rattle.ltm_setting.specs.Setting.{setting_of}
use Rattle.ltm_loading.specs.Shaped.{IsShaped}
use Rattle.ltm_check.specs.Due.{record_count}
use Rattle.ltm_check.specs.Pieces.{HasRead}
use Rattle.ltm_check.proofs.file.read_curves_from.Given as goal

abbrev pub invariant-loop : goal.invariant-loop
invariant-loop g l = record {
  room : 0 < length l.piece;
  shape : IsShaped (setting_of l.scenario) l.curves;
  few : l.next ≤ record_count l.scenario + 1;
  within : l.taken ≤ l.most;
  steps : l.counter ≤ l.taken;
  got : (got : List ℕ) × (length got ≡ l.taken) × (g.S.Source.left l.fn.source ≡ prepended got (g.S.Source.left l.source)) × HasRead l.scenario got l.curves l.next l.text.items;
  later : g.S.Source.faults l.fn.source ≤ g.S.Source.faults l.source;
}
