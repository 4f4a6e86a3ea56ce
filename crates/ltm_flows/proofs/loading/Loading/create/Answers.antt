use Rattle.std.proofs.Common.{◌∙◌, refl, sym, arith}
use Rattle.ltm_setting.specs.Setting.{setting_of}
use Rattle.ltm_flows.proofs.Showing.{all_narrow, all_rise, have_totals, all_produced_is}
use Rattle.ltm_flows.proofs.loading.Loading.create.Goals as goal

pub of-requires-clause-small : goal.of-requires-clause-small
of-requires-clause-small c = all_narrow (setting_of c.args.scenario.now) c.args.curves.now c.totals_small.ensures c.is_setting.ensures.setting c.requires.shape c.requires.loading

pub invariant_of-result : goal.invariant_of-result
invariant_of-result c = record {
  some_step = c.step.ensures.some;
  short_step = c.step.ensures.small;
  few_links = c.link_count.ensures.few;
  few_nodes = c.node_count.ensures.few;
  groups = omega (arith, c.in_ok-curves.ensures.shape.same_groups, c.requires.shape.same_groups, c.link_count.ensures.value, c.node_count.ensures.value);
  times = c.in_ok-free.ensures.count ∙ sym c.link_count.ensures.value;
  few_slots = omega (arith, c.in_ok-curves.ensures.shape.same_slots, c.requires.shape.same_slots, c.is_setting.ensures.setting.small.few_slots);
  origins = c.in_ok-production.ensures.nodes ∙ sym c.node_count.ensures.value;
  amounts = omega (arith, c.in_ok-production.ensures.room, c.in_ok-curves.ensures.shape.same_slots, c.requires.shape.same_slots);
  rises = all_rise (setting_of c.args.scenario.now) c.args.curves.now _ c.never_fall.ensures c.is_setting.ensures.setting c.requires.shape c.requires.loading c.in_ok-curves.ensures;
}

pub returns : goal.returns
returns c = record {
  version = refl;
  loading = c.requires.loading;
  shape = record { same_groups = c.in_ok-curves.ensures.shape.same_groups ∙ c.requires.shape.same_groups; same_slots = c.in_ok-curves.ensures.shape.same_slots ∙ c.requires.shape.same_slots };
  totals = have_totals (setting_of c.args.scenario.now) c.args.curves.now c.in_ok-curves.curves c.requires.shape c.in_ok-curves.ensures;
  step = c.step.ensures.value;
  links = c.link_count.ensures.value;
  nodes = c.node_count.ensures.value;
  free = c.in_ok-free.ensures.times;
  produced = c.in_ok-production.ensures.amounts;
  generated = λ k l.
      all_produced_is (setting_of c.args.scenario.now) c.in_ok-production.production k c.in_ok-production.ensures.nodes (omega (arith, c.in_ok-production.ensures.room, l))
      (λ n x. c.in_ok-production.ensures.amounts n k x l) (c.little_is_produced.ensures.all (setting_of c.args.scenario.now).nodes k);
}
