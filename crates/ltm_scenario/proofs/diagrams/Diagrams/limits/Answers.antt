use Rattle.std.proofs.Common.{◌≡◌, ap, sym, ◌∙◌, subst, ◌<◌, slice_get, Some, length}
use Rattle.ltm_diagram.specs.Limits.{limits_of}
use Rattle.ltm_scenario.specs.Diagrams.{DiagramsState}
use Rattle.ltm_scenario.proofs.Beside.{limits_beside}
use Rattle.ltm_scenario.proofs.diagrams.Diagrams.limits.Goals as goal

pub returns : goal.returns
returns c = record {
  limits = λ diagram here.
      let there : slice_get c.self.inside.diagrams.items c.args.link ≡ Some diagram = ap (λ (v : DiagramsState). slice_get v.diagrams c.args.link) c.self.view_is ∙ here in
      ap (λ (v : DiagramsState). limits_of diagram v.pace.step.0 v.pace.carry) (sym c.self.view_is)
      ∙ limits_beside c.self.inside.pace.step.0 c.self.inside.pace.carry c.self.inside.diagrams.items c.self.inside.timed.items c.args.link diagram c.index.result.now c.self.invariant (subst (λ (v : DiagramsState). c.args.link < length v.diagrams) (sym c.self.view_is) c.requires) c.index.ensures there;
}
