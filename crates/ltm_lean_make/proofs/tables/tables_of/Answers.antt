use Rattle.std.proofs.Common.{arith, ◌∙◌}
use Rattle.ltm_setting.specs.Setting.{setting_of}
use Rattle.ltm_loading.specs.Groups.{up_of, down_of}
use Rattle.ltm_loading.proofs.Front.{up_is_group, down_is_group}
use Rattle.ltm_lean_make.proofs.First.{totals_first}
use Rattle.ltm_lean_make.proofs.tables.tables_of.Goals as goal

pub returns-clause-tables : goal.returns-clause-tables
returns-clause-tables c = record {
  link_lists = c.in_ok-links.ensures.links;
  link_order = c.in_ok-links.ensures.order;
  link_listed = c.in_ok-links.ensures.listed;
  node_lists = c.in_ok-nodes.ensures.nodes;
  node_order = c.in_ok-nodes.ensures.order;
  node_listed = c.in_ok-nodes.ensures.listed;
  entered_links = c.in_ok-entered.ensures.links ∙ c.link_count-count.ensures.value;
  entered_slots = c.in_ok-entered.ensures.slots ∙ c.slot_count-slots.ensures.value;
  left_links = c.in_ok-left.ensures.links ∙ c.link_count-count.ensures.value;
  left_slots = c.in_ok-left.ensures.slots ∙ c.slot_count-slots.ensures.value;
  mail_count = c.in_ok-mails.ensures.count ∙ c.in_ok-links.ensures.links;
  mail_wide = λ l d m. c.in_ok-mails.ensures.wide l d (omega (arith, m, c.in_ok-links.ensures.links));
}

pub returns-clause-frozen : goal.returns-clause-frozen
returns-clause-frozen c = λ counts load.
    let s = setting_of c.args.scenario.now in
    record {
      up = totals_first s counts up_of c.in_ok-entered.entered load (up_is_group s) c.in_ok-entered.ensures.none;
      down = totals_first s counts down_of c.in_ok-left.left load (down_is_group s) c.in_ok-left.ensures.none;
      came = λ l d m before. absurd (omega (arith, before));
    }

pub returns-clause-none : goal.returns-clause-none
returns-clause-none c = λ l d m. c.in_ok-mails.ensures.none l d (omega (arith, m, c.in_ok-links.ensures.links))
