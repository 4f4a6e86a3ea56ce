use Rattle.std.proofs.Common.{ℕ, refl, sym, subst}
use Rattle.ltm_curve.specs.Table.{counts_of}
use Rattle.ltm_diagram.specs.Delays.{IsDelay}
use Rattle.ltm_setting.specs.Setting.{setting_of}
use Rattle.ltm_sending.proofs.Links.{entered_rises, found}
use Rattle.ltm_sending.proofs.leaving.waiting_on.Goals as goal

pub total_ago-ago-requires-clause-rises : goal.total_ago-ago-requires-clause-rises
total_ago-ago-requires-clause-rises g c =
    entered_rises (setting_of c.args.scenario.now) (counts_of c.args.curves.now) c.args.link.0 c.args.slot _ _ (c.links_are_ready.ensures _ _ _ _ c.requires.setting c.requires.ready.front c.requires.link) c.requires.ready.shape.same_destinations c.up_of-up.ensures

pub returns : goal.returns
returns g c =
    found (setting_of c.args.scenario.now) (counts_of c.args.curves.now) c.args.link.0 c.args.slot _ c.up_of-up.result c.down_of.result c.total_ago-ago.result.total _ c.step.result.0 ((setting_of c.args.scenario.now).free_time c.args.link.0) _ c.capacity-capacity.result _
    c.requires.setting c.requires.link (c.links_are_ready.ensures _ _ _ _ c.requires.setting c.requires.ready.front c.requires.link) c.requires.ready.shape.same_destinations c.up_of-up.ensures c.down_of.ensures
    (record {
      reach = c.total_ago-ago.ensures.total ((setting_of c.args.scenario.now).free_time c.args.link.0) (subst (λ (h : ℕ). IsDelay h ((setting_of c.args.scenario.now).free_time c.args.link.0) c.delays.result.free) (sym c.step.ensures.value) c.delays.ensures.free);
      entered = c.total_ago-ago.ensures.by;
      within = c.total_ago-ago.ensures.reached;
      same_step = c.step.ensures.value;
      same_free = refl;
      gone = c.total-left.ensures.total;
      same_room = c.capacity-capacity.ensures;
      least = c.min-goal.ensures;
    })
