use Rattle.std.proofs.Common.{◌∙◌, refl, arith}
use Rattle.ltm_setting.specs.Setting.{setting_of}
use Rattle.ltm_flows.proofs.Progress.{working_end}
use Rattle.ltm_working.proofs.Beginnings.{opened}
use Rattle.ltm_working.proofs.table.Table.create.Goals as goal

pub returns : goal.returns
returns c =
    let s = setting_of c.args.scenario.now in
    let loaded = c.in_ok-curves.ensures in
    opened s _ (record {
      setting = c.is_setting.ensures.setting;
      shape = loaded.working.shape;
      loading = working_end s c.in_ok-curves.field-0.curves s.slots refl loaded.working;
      keeps = loaded.keeps;
      claims = c.in_ok-claims.ensures;
      nodes = c.in_ok-frontier.ensures.nodes ∙ c.node_count-nodes.ensures.value;
      slots = c.in_ok-frontier.ensures.slots ∙ c.slot_count-slots.ensures.value;
      idle = c.in_ok-frontier.ensures.idle;
      changed = record {
        same_groups = omega (arith, c.in_ok-changed.ensures.shape.same_groups, c.group_count.ensures.count);
        same_slots = omega (arith, c.in_ok-changed.ensures.shape.same_slots, c.slot_count-slots.ensures.value);
      };
      none = c.in_ok-changed.ensures.none;
    })
