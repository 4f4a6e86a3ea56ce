use Rattle.std.proofs.Common.{ℕ, ◌/◌, ◌%◌, ◌<◌}
use Rattle.ltm_setting.specs.Setting.{setting_of}
use Rattle.ltm_used.specs.Found.{number_at, count_of, IsDone, Grows}
use Rattle.ltm_used.proofs.closing.close.Given as goal

abbrev pub invariant-loop-place : goal.invariant-loop-place
invariant-loop-place l = record {
  grows : Grows l.initial.found l.found;
  done : (j : ℕ) → j < l.place → j < count_of l.found → IsDone (setting_of l.scenario) l.goes l.found (number_at l.found j / l.destinations) (number_at l.found j % l.destinations);
}
