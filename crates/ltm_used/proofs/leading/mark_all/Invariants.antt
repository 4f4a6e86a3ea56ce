use Rattle.std.proofs.Common.{◌≡◌, ℕ, List, All, length}
use Rattle.ltm_scenario.specs.IsScenario.{IsSplitOf}
use Rattle.ltm_setting.specs.Setting.{setting_of}
use Rattle.ltm_used.specs.Leading.{KeepsMarks, AreAllMarked}
use Rattle.ltm_used.proofs.leading.mark_all.Given as goal

abbrev pub invariant-rows : goal.invariant-rows
invariant-rows l = record {
  long : length l.goes ≡ length l.fn.goes;
  all : All (IsSplitOf l.scenario) l.rows;
  seen : (later : List ℕ) → KeepsMarks l.goes later → AreAllMarked (setting_of l.scenario) later l.rows → AreAllMarked (setting_of l.scenario) later l.scenario.splits;
}

abbrev pub decreases-rows : goal.decreases-rows
decreases-rows l = length l.rows
