use Rattle.std.proofs.Common.{◌≡◌, ◌<◌, length, Ok, sym, ap, ◌∙◌, arith}
use Rattle.std.proofs.lemmas.Option.{get_or_from_slice_get}
use Rattle.ltm_diagram.specs.Limits.{limits_of}
use Rattle.ltm_scenario.specs.declared.diagrams.Pace.{Pace}
use Rattle.ltm_scenario.proofs.Undoing.{diagram_undoes}
use Rattle.ltm_scenario.proofs.parts.Parts.change_diagram.Goals as goal

pub returns-clause-undo : goal.returns-clause-undo
returns-clause-undo c =
    let old = c.diagram-old_diagram.result.now in
    let p = c.args.self.now in
    let inside : c.args.link < length p.diagrams.diagrams = omega (arith, c.requires.link, c.requires.parts.scenario.diagram_for_each) in
    let sets : limits_of old p.setup.step.0 p.setup.carry ≡ Ok c.limits-old_limits.result = ap (λ (q : Pace). limits_of old q.step.0 q.carry) (sym c.requires.parts.pace) ∙ c.limits-old_limits.ensures.limits old c.diagram-old_diagram.ensures.diagram in
    diagram_undoes p c.replace.new.self c.args.link c.args.diagram old c.limits-old_limits.result c.requires.parts inside c.replace.ensures.diagrams
    (sym (get_or_from_slice_get p.diagrams.diagrams c.args.link old old c.diagram-old_diagram.ensures.diagram)) sets
