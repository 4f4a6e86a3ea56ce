use Rattle.std.proofs.Common.{◌≡◌, drop}
use Rattle.ltm_scenario.specs.IsScenario.{IsDemandOf}
use Rattle.ltm_casefile.specs.Matrix.{slices_set}
use Rattle.ltm_casefile.proofs.matrix.set_slices.Given as goal

abbrev pub invariant-slices : goal.invariant-slices
invariant-slices l = record {
  left : slices_set l.total l.row l.scenario (drop l.slice-index l.profile.slices) ≡ slices_set l.total l.row l.fn.scenario l.profile.slices;
  stays : IsDemandOf l.scenario l.row;
}
