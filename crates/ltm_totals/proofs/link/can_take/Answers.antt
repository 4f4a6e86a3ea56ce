use Rattle.std.proofs.Common.{◌≡◌, ℕ, sym, subst, ap, arith, ◌∙◌}
use Rattle.ltm_curve.specs.Counts.{total}
use Rattle.ltm_diagram.specs.Delays.{IsDelay}
use Rattle.ltm_loading.specs.Flows.{earlier}
use Rattle.ltm_loading.specs.Groups.{down_of}
use Rattle.ltm_setting.specs.Setting.{setting_of}
use Rattle.ltm_totals.proofs.link.can_take.Goals as goal

pub returns-clause-value : goal.returns-clause-value
returns-clause-value c = λ counts up down.
    let s = setting_of c.args.scenario.now in
    let left : ℕ → ℕ = total s.destinations (counts (down_of c.args.link.0)) in
    let ago : c.ago-ago.result ≡ earlier (total (setting_of c.args.scenario.now).destinations (counts (down_of c.args.link.0))) (setting_of c.args.scenario.now).step c.args.slot ((setting_of c.args.scenario.now).wave_time c.args.link.0) =
    c.ago-ago.ensures.total left (s.wave_time c.args.link.0) (λ k x. down c.args.link.0 k c.requires.link x)
    (subst (λ (h : ℕ). IsDelay h (s.wave_time c.args.link.0) c.delays.result.wave) (sym c.step.ensures.value) c.delays.ensures.wave)
    ∙ ap (λ (h : ℕ). earlier left h c.args.slot (s.wave_time c.args.link.0)) c.step.ensures.value in
    omega (
      arith,
      c.min.ensures,
      c.min-2.ensures,
      c.capacity_at.ensures,
      c.limits-limits.ensures.capacity c.args.slot,
      c.limits-limits.ensures.storage,
      c.entry_limit-entry.ensures,
      c.saturating_sub-room.ensures,
      ago,
      c.at-stands.ensures.total,
      up c.args.link.0 c.args.slot c.requires.link (omega arith),
    )
