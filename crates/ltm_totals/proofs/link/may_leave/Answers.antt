use Rattle.std.proofs.Common.{◌≡◌, ℕ, sym, subst, ap, arith, ◌∙◌}
use Rattle.ltm_curve.specs.Counts.{total}
use Rattle.ltm_diagram.specs.Delays.{IsDelay}
use Rattle.ltm_loading.specs.Flows.{earlier}
use Rattle.ltm_loading.specs.Groups.{up_of}
use Rattle.ltm_setting.specs.Setting.{setting_of}
use Rattle.ltm_totals.proofs.link.may_leave.Goals as goal

pub returns-clause-goal : goal.returns-clause-goal
returns-clause-goal c = λ counts up down.
    let s = setting_of c.args.scenario.now in
    let entered : ℕ → ℕ = total s.destinations (counts (up_of c.args.link.0)) in
    let ago : c.ago-ago.result ≡ earlier (total (setting_of c.args.scenario.now).destinations (counts (up_of c.args.link.0))) (setting_of c.args.scenario.now).step c.args.slot ((setting_of c.args.scenario.now).free_time c.args.link.0) =
    c.ago-ago.ensures.total entered (s.free_time c.args.link.0) (λ k x. up c.args.link.0 k c.requires.link x)
    (subst (λ (h : ℕ). IsDelay h (s.free_time c.args.link.0) c.delays.result.free) (sym c.step.ensures.value) c.delays.ensures.free)
    ∙ ap (λ (h : ℕ). earlier entered h c.args.slot (s.free_time c.args.link.0)) c.step.ensures.value in
    omega (arith, c.min-goal.ensures, ago, c.capacity.ensures, c.at-gone.ensures.total, down c.args.link.0 c.args.slot c.requires.link (omega arith))
