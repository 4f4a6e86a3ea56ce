use Rattle.std.proofs.Common.{◌≡◌, ℕ, slice_get, Some, Ok, sym, ap, subst, ◌∙◌}
use Rattle.ltm_diagram.specs.declared.diagram.Diagram.{Diagram}
use Rattle.ltm_diagram.specs.declared.diagram.Limits.{Limits}
use Rattle.ltm_diagram.specs.Limits.{limits_of}
use Rattle.ltm_diagram.specs.Delays.{IsDelay}
use Rattle.ltm_scenario.specs.Data.{ScenarioData}
use Rattle.ltm_setting.specs.Setting.{setting_of, limits_at, set_by, or_no_limits}
use Rattle.ltm_setting.proofs.readers.delays.Goals as goal

-- the limits of a link are those that its diagram sets
limits_there : (s : ScenarioData) (link : ℕ) (diagram : Diagram) (limits : Limits) → slice_get s.diagrams link ≡ Some diagram → limits_of diagram s.setup.step.0 s.setup.carry ≡ Ok limits → limits_at s link ≡ limits
limits_there s link diagram limits here is = ap (set_by s.setup.step.0 s.setup.carry) here ∙ ap or_no_limits is

pub returns-clause-free : goal.returns-clause-free
unfolding setting_of
returns-clause-free c =
    let here = c.diagram-diagram.ensures in
    let is = c.limits-limits.ensures c.diagram-diagram.result.now here in
    subst (λ (l : Limits). IsDelay c.args.scenario.now.setup.step.0 l.free_ms c.delays.result.free)
    (sym (limits_there c.args.scenario.now c.args.link.0 c.diagram-diagram.result.now c.limits-limits.result here is))
    (c.delays.ensures c.diagram-diagram.result.now c.limits-limits.result here is).free

pub returns-clause-wave : goal.returns-clause-wave
unfolding setting_of
returns-clause-wave c =
    let here = c.diagram-diagram.ensures in
    let is = c.limits-limits.ensures c.diagram-diagram.result.now here in
    subst (λ (l : Limits). IsDelay c.args.scenario.now.setup.step.0 l.wave_ms c.delays.result.wave)
    (sym (limits_there c.args.scenario.now c.args.link.0 c.diagram-diagram.result.now c.limits-limits.result here is))
    (c.delays.ensures c.diagram-diagram.result.now c.limits-limits.result here is).wave
