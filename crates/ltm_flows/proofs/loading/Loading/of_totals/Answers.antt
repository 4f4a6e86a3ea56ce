use Rattle.std.proofs.Common.{◌∙◌, refl, sym, arith}
use Rattle.ltm_setting.specs.Setting.{setting_of}
use Rattle.ltm_flows.proofs.Showing.{totals_rise, all_produced_is}
use Rattle.ltm_flows.proofs.loading.Loading.of_totals.Goals as goal

pub invariant_of-result : goal.invariant_of-result
invariant_of-result c = record {
  some_step = c.step.ensures.some;
  short_step = c.step.ensures.small;
  few_links = c.link_count.ensures.few;
  few_nodes = c.node_count.ensures.few;
  groups = omega (arith, c.write_arrivals.ensures.shape.same_groups, c.link_count.ensures.value, c.node_count.ensures.value);
  times = c.in_ok-free.ensures.count ∙ sym c.link_count.ensures.value;
  few_slots = omega (arith, c.write_arrivals.ensures.shape.same_slots, c.is_setting.ensures.setting.small.few_slots);
  origins = c.in_ok-production.ensures.nodes ∙ sym c.node_count.ensures.value;
  amounts = omega (arith, c.in_ok-production.ensures.room, c.write_arrivals.ensures.shape.same_slots);
  rises = totals_rise (setting_of c.args.scenario.now) c.write_arrivals.ensures.loading.counts c.write_arrivals.new.curves c.never_fall.ensures c.is_setting.ensures.setting c.write_arrivals.ensures.loading.loading c.write_arrivals.ensures.shape c.write_arrivals.ensures.loading.sums;
}

pub returns : goal.returns
returns c = (
  c.write_arrivals.ensures.loading.counts,
  record {
    version = refl;
    loading = c.write_arrivals.ensures.loading.loading;
    shape = c.write_arrivals.ensures.shape;
    totals = c.write_arrivals.ensures.loading.sums;
    step = c.step.ensures.value;
    links = c.link_count.ensures.value;
    nodes = c.node_count.ensures.value;
    free = c.in_ok-free.ensures.times;
    produced = c.in_ok-production.ensures.amounts;
    generated = λ k l.
        all_produced_is (setting_of c.args.scenario.now) c.in_ok-production.production k c.in_ok-production.ensures.nodes (omega (arith, c.in_ok-production.ensures.room, l))
        (λ n x. c.in_ok-production.ensures.amounts n k x l) (c.little_is_produced.ensures.all (setting_of c.args.scenario.now).nodes k);
  },
)
