use Rattle.std.proofs.Common.{arith}
use Rattle.ltm_curve.specs.TotalCurves.{total_at}
use Rattle.ltm_setting.specs.Setting.{setting_of}
use Rattle.ltm_flows.proofs.Arriving.{moved_small, arrivals_are_totals}
use Rattle.ltm_flows.proofs.arrivals.write_arrivals.Goals as goal

pub put_arrivals-requires-clause-small : goal.put_arrivals-requires-clause-small
put_arrivals-requires-clause-small c k x =
    moved_small (setting_of c.args.scenario.now) (total_at c.args.curves.now) c.link_count.result c.node_count.result k c.adds_up.ensures c.counts_small.ensures c.is_setting.ensures.setting c.requires.moved
    c.link_count.ensures.value c.node_count.ensures.value (omega (arith, c.destination_count-destinations.ensures.value, c.destination_count-destinations.ensures.few)) (omega (arith, x, c.requires.shape.same_slots))

pub returns-clause-loading : goal.returns-clause-loading
returns-clause-loading c =
    arrivals_are_totals (setting_of c.args.scenario.now) c.args.curves.now c.put_arrivals.new.curves c.link_count.result c.node_count.result c.adds_up.ensures c.is_setting.ensures.setting c.requires.shape c.requires.moved
    c.link_count.ensures.value c.node_count.ensures.value c.put_arrivals.ensures
