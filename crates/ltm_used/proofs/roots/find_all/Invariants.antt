use Rattle.std.proofs.Common.{ℕ, ◌<◌}
use Rattle.ltm_setting.specs.Setting.{setting_of}
use Rattle.ltm_used.specs.Closed.{HasDemand}
use Rattle.ltm_used.specs.Found.{Grows, GoesOn}
use Rattle.ltm_used.proofs.roots.find_all.Given as goal

abbrev pub invariant-loop-node : goal.invariant-loop-node
invariant-loop-node l = record {
  grows : Grows l.initial.found l.found;
  roots : (u d : ℕ) → u < l.node → d < (setting_of l.scenario).destinations → HasDemand (setting_of l.scenario) u d → GoesOn (setting_of l.scenario) l.goes l.found u d;
}
