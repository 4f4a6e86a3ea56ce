use Rattle.std.proofs.Common.{◌≡◌, ap, sym, ◌∙◌, subst, ◌<◌, slice_get, Some, Ok, length}
use Rattle.ltm_diagram.specs.Limits.{limits_of}
use Rattle.ltm_diagram.specs.Delays.{AreDelays}
use Rattle.ltm_scenario.specs.Diagrams.{DiagramsState}
use Rattle.ltm_scenario.proofs.Beside.{delays_beside}
use Rattle.ltm_scenario.proofs.diagrams.Diagrams.delays.Goals as goal

pub returns : goal.returns
returns c = record {
  delays = λ diagram limits here is.
      let there : slice_get c.self.inside.diagrams.items c.args.link ≡ Some diagram = ap (λ (v : DiagramsState). slice_get v.diagrams c.args.link) c.self.view_is ∙ here in
      let set : limits_of diagram c.self.inside.pace.step.0 c.self.inside.pace.carry ≡ Ok limits = ap (λ (v : DiagramsState). limits_of diagram v.pace.step.0 v.pace.carry) c.self.view_is ∙ is in
      subst (λ (v : DiagramsState). AreDelays v.pace.step.0 limits c.index.result.now.delays) c.self.view_is
      (delays_beside c.self.inside.pace.step.0 c.self.inside.pace.carry c.self.inside.diagrams.items c.self.inside.timed.items c.args.link diagram c.index.result.now limits c.self.invariant (subst (λ (v : DiagramsState). c.args.link < length v.diagrams) (sym c.self.view_is) c.requires) c.index.ensures there set);
}
