use Rattle.std.proofs.Common.{ℕ, arith, refl, sym, subst, ◌∙◌}
use Rattle.ltm_curve.specs.Table.{counts_of}
use Rattle.ltm_diagram.specs.Delays.{IsDelay}
use Rattle.ltm_setting.specs.Setting.{setting_of}
use Rattle.ltm_sending.proofs.Links.{left_rises, has_room, receives}
use Rattle.ltm_sending.proofs.link.link_takes.Goals as goal

pub total_ago-ago-requires-clause-rises : goal.total_ago-ago-requires-clause-rises
total_ago-ago-requires-clause-rises g c =
    left_rises (setting_of c.args.scenario.now) (counts_of c.args.curves.now) c.args.link.0 c.args.slot _ c.down_of.result (c.links_are_ready.ensures _ _ _ _ c.is_setting.ensures.setting c.requires.ready.front c.requires.link) c.requires.ready.shape.same_destinations c.down_of.ensures

pub overflow_add-room : goal.overflow_add-room
overflow_add-room g c =
    let has =
    has_room (setting_of c.args.scenario.now) (counts_of c.args.curves.now) c.args.link.0 c.args.slot _ c.up_of-up.result c.down_of.result c.total_ago-ago.result.total _ c.step.result.0 ((setting_of c.args.scenario.now).wave_time c.args.link.0) c.total-entered.result c.limits-limits.result.storage
    (c.links_are_ready.ensures _ _ _ _ c.is_setting.ensures.setting c.requires.ready.front c.requires.link) c.requires.ready.shape.same_destinations c.up_of-up.ensures c.down_of.ensures
    (record {
      reach = c.total_ago-ago.ensures.total ((setting_of c.args.scenario.now).wave_time c.args.link.0) (subst (λ (h : ℕ). IsDelay h ((setting_of c.args.scenario.now).wave_time c.args.link.0) c.delays.result.wave) (sym c.step.ensures.value) c.delays.ensures.wave);
      before = c.total_ago-ago.ensures.by;
      within = c.total_ago-ago.ensures.reached;
      same_step = c.step.ensures.value;
      same_wave = refl;
      all = c.total-entered.ensures.total;
      same_storage = c.limits-limits.ensures.storage;
    }) in
    omega (arith, has.fewer)

pub overflow_sub-room : goal.overflow_sub-room
overflow_sub-room g c =
    let has =
    has_room (setting_of c.args.scenario.now) (counts_of c.args.curves.now) c.args.link.0 c.args.slot _ c.up_of-up.result c.down_of.result c.total_ago-ago.result.total _ c.step.result.0 ((setting_of c.args.scenario.now).wave_time c.args.link.0) c.total-entered.result c.limits-limits.result.storage
    (c.links_are_ready.ensures _ _ _ _ c.is_setting.ensures.setting c.requires.ready.front c.requires.link) c.requires.ready.shape.same_destinations c.up_of-up.ensures c.down_of.ensures
    (record {
      reach = c.total_ago-ago.ensures.total ((setting_of c.args.scenario.now).wave_time c.args.link.0) (subst (λ (h : ℕ). IsDelay h ((setting_of c.args.scenario.now).wave_time c.args.link.0) c.delays.result.wave) (sym c.step.ensures.value) c.delays.ensures.wave);
      before = c.total_ago-ago.ensures.by;
      within = c.total_ago-ago.ensures.reached;
      same_step = c.step.ensures.value;
      same_wave = refl;
      all = c.total-entered.ensures.total;
      same_storage = c.limits-limits.ensures.storage;
    }) in
    omega (arith, has.room)

pub returns-clause-value : goal.returns-clause-value
returns-clause-value g c =
    let has =
    has_room (setting_of c.args.scenario.now) (counts_of c.args.curves.now) c.args.link.0 c.args.slot _ c.up_of-up.result c.down_of.result c.total_ago-ago.result.total _ c.step.result.0 ((setting_of c.args.scenario.now).wave_time c.args.link.0) c.total-entered.result c.limits-limits.result.storage
    (c.links_are_ready.ensures _ _ _ _ c.is_setting.ensures.setting c.requires.ready.front c.requires.link) c.requires.ready.shape.same_destinations c.up_of-up.ensures c.down_of.ensures
    (record {
      reach = c.total_ago-ago.ensures.total ((setting_of c.args.scenario.now).wave_time c.args.link.0) (subst (λ (h : ℕ). IsDelay h ((setting_of c.args.scenario.now).wave_time c.args.link.0) c.delays.result.wave) (sym c.step.ensures.value) c.delays.ensures.wave);
      before = c.total_ago-ago.ensures.by;
      within = c.total_ago-ago.ensures.reached;
      same_step = c.step.ensures.value;
      same_wave = refl;
      all = c.total-entered.ensures.total;
      same_storage = c.limits-limits.ensures.storage;
    }) in
    receives (setting_of c.args.scenario.now) (counts_of c.args.curves.now) c.args.link.0 c.args.slot _ _ _ _ _ _ _ _ has (c.capacity_at.ensures ∙ c.limits-limits.ensures.capacity c.args.slot) c.entry_limit-entry.ensures refl c.min.ensures c.min-2.ensures

pub returns-clause-small : goal.returns-clause-small
returns-clause-small g c = omega (arith, c.is_setting.ensures.setting.small.capacities c.args.link.0 c.args.slot c.requires.link)
