use Rattle.std.proofs.Common.{ℕ, ◌<◌, slice_index}
use Rattle.ltm_setting.specs.Setting.{setting_of}
use Rattle.ltm_used.specs.Found.{is_found, number_of, Grows}
use Rattle.ltm_used.proofs.closing.go_on.Given as goal

abbrev pub invariant-loop-place : goal.invariant-loop-place
invariant-loop-place l = record {
  grows : Grows l.initial.found l.found;
  done : (j : ℕ) → j < l.place → 0 < slice_index l.goes (number_of (setting_of l.scenario) ((setting_of l.scenario).out_link l.fn.node.0 j) l.destination)
      → is_found l.found (number_of (setting_of l.scenario) ((setting_of l.scenario).out_link l.fn.node.0 j) l.destination);
}
